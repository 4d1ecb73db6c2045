use Rattle.std.proofs.Common.{◌+◌, ◌*◌}
use Rattle.lq_coded.proofs.levels.+reading.Given as goal

abbrev pub decreases-test_in : goal.decreases-test_in
decreases-test_in l = 5 * l.levels

abbrev pub decreases-boxed_in : goal.decreases-boxed_in
decreases-boxed_in l = 5 * l.levels + 1

abbrev pub decreases-two_in : goal.decreases-two_in
decreases-two_in l = 5 * l.levels + 2

abbrev pub decreases-and_in : goal.decreases-and_in
decreases-and_in l = 5 * l.levels + 3

abbrev pub decreases-or_in : goal.decreases-or_in
decreases-or_in l = 5 * l.levels + 3

abbrev pub decreases-not_in : goal.decreases-not_in
decreases-not_in l = 5 * l.levels + 3

abbrev pub decreases-some_test_in : goal.decreases-some_test_in
decreases-some_test_in l = 5 * l.less + 4
