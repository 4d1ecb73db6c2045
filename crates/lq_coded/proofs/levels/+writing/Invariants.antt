use Rattle.std.proofs.Common.{◌+◌, ◌*◌}
use Rattle.lq_coded.proofs.levels.+writing.Given as goal

abbrev pub decreases-append_test : goal.decreases-append_test
decreases-append_test l = 4 * l.levels

abbrev pub decreases-append_one : goal.decreases-append_one
decreases-append_one l = 4 * l.levels + 1

abbrev pub decreases-append_two : goal.decreases-append_two
decreases-append_two l = 4 * l.levels + 2

abbrev pub decreases-append_some_test : goal.decreases-append_some_test
decreases-append_some_test l = 4 * l.less + 3
