use Rattle.std.proofs.Common.{Bool, OnOk, suc, subst, sym, true, ◌++◌, ◌≡◌}
use Rattle.lq_model.specs.declared.test.Test.{Test}
use Rattle.lq_codec.specs.State.{OnTrue, is_below_level}
use Rattle.lq_codec.specs.Queries.{operand_codec, test_codec}
use Rattle.lq_coded.proofs.TestLemmas.{and_fits, and_written, leaf_below, not_written, or_fits, or_written}
use Rattle.lq_coded.proofs.levels.+writing.Goals as goal

pub append_some_test-returns-in-NotNull-clause-bytes : goal.append_some_test-returns-in-NotNull-clause-bytes
append_some_test-returns-in-NotNull-clause-bytes t c =
    subst (λ (x : Test). OnOk c.append_at-in-NotNull.result (c.append_at-in-NotNull.new.to.items ≡ c.args.to.now.items ++ (test_codec (suc c.args.less)).write x)) (sym c.in-NotNull.is) c.append_at-in-NotNull.ensures.bytes

pub append_some_test-returns-in-NotNull-clause-fits : goal.append_some_test-returns-in-NotNull-clause-fits
append_some_test-returns-in-NotNull-clause-fits t c =
    subst (λ (x : Test). OnOk c.append_at-in-NotNull.result (OnTrue (is_below_level (suc c.args.less) x) ((test_codec (suc c.args.less)).ok x ≡ true))) (sym c.in-NotNull.is)
    (subst (λ (b : Bool). OnOk c.append_at-in-NotNull.result (OnTrue b (operand_codec.ok c.in-NotNull.x ≡ true))) (sym (leaf_below c.args.less)) c.append_at-in-NotNull.ensures.fits)

pub append_some_test-returns-in_ok-append_two-in-And-clause-bytes : goal.append_some_test-returns-in_ok-append_two-in-And-clause-bytes
append_some_test-returns-in_ok-append_two-in-And-clause-bytes t c =
    subst (λ (x : Test). c.append_two.new.to.items ≡ c.args.to.now.items ++ (test_codec (suc c.args.less)).write x) (sym c.in-And.is)
    (and_written c.args.less c.in-And.a c.in-And.b c.args.to.now.items c.append_two.new.to.items (rw (c.get.ensures, c.get-in-And.ensures) at c.in_ok-append_two-in-And.ensures.bytes))

pub append_some_test-returns-in_ok-append_two-in-And-clause-fits : goal.append_some_test-returns-in_ok-append_two-in-And-clause-fits
append_some_test-returns-in_ok-append_two-in-And-clause-fits t c =
    subst (λ (x : Test). OnTrue (is_below_level (suc c.args.less) x) ((test_codec (suc c.args.less)).ok x ≡ true)) (sym c.in-And.is)
    (and_fits c.args.less c.in-And.a c.in-And.b (rw (c.get.ensures, c.get-in-And.ensures) at c.in_ok-append_two-in-And.ensures.fits))

pub append_some_test-returns-in_ok-append_two-in-Or-clause-bytes : goal.append_some_test-returns-in_ok-append_two-in-Or-clause-bytes
append_some_test-returns-in_ok-append_two-in-Or-clause-bytes t c =
    subst (λ (x : Test). c.append_two-in-Or.new.to.items ≡ c.args.to.now.items ++ (test_codec (suc c.args.less)).write x) (sym c.in-Or.is)
    (or_written c.args.less c.in-Or.a c.in-Or.b c.args.to.now.items c.append_two-in-Or.new.to.items (rw (c.get-in-Or.ensures, c.get-in-Or-2.ensures) at c.in_ok-append_two-in-Or.ensures.bytes))

pub append_some_test-returns-in_ok-append_two-in-Or-clause-fits : goal.append_some_test-returns-in_ok-append_two-in-Or-clause-fits
append_some_test-returns-in_ok-append_two-in-Or-clause-fits t c =
    subst (λ (x : Test). OnTrue (is_below_level (suc c.args.less) x) ((test_codec (suc c.args.less)).ok x ≡ true)) (sym c.in-Or.is)
    (or_fits c.args.less c.in-Or.a c.in-Or.b (rw (c.get-in-Or.ensures, c.get-in-Or-2.ensures) at c.in_ok-append_two-in-Or.ensures.fits))

pub append_some_test-returns-in_ok-append_one-in-Not-clause-bytes : goal.append_some_test-returns-in_ok-append_one-in-Not-clause-bytes
append_some_test-returns-in_ok-append_one-in-Not-clause-bytes t c =
    subst (λ (x : Test). c.append_one.new.to.items ≡ c.args.to.now.items ++ (test_codec (suc c.args.less)).write x) (sym c.in-Not.is)
    (not_written c.args.less c.in-Not.a c.args.to.now.items c.append_one.new.to.items (rw c.get-in-Not.ensures at c.in_ok-append_one-in-Not.ensures.bytes))
