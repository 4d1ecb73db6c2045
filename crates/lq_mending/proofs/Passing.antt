-- The checks of undo-unrecorded, one after another.
use Rattle.std.proofs.Common.{ap, arith, inr, subst, sym, ◌∙◌}
use Rattle.std.specs.List.{list_all}
use Rattle.std.specs.Option.{option_or}
use Rattle.std.specs.Prelude.{Bool, Err, IfErr, IfOk, List, None, Ok, Option, Result, Some, false, if◌then◌else◌, is_none, is_some, length, suc, true, zero, ℕ, ◌&&◌, ◌≡◌, ◌≤◌, ◌||◌, ◌⊎◌}
use Rattle.laws_repair.specs.Repair.{is_mark_text, by_of, standing}
use Rattle.lq_base.specs.Kind.{plain_number}
use Rattle.lq_base.specs.declared.dialect.Dialect.{Dialect}
use Rattle.lq_base.specs.declared.tracking.Lock.{Lock}
use Rattle.lq_expr.specs.declared.options.Options.{Options}
use Rattle.lq_any.specs.declared.any_change.AnyChange.{AnyChange}
use Rattle.lq_model.specs.Step.{is_statement}
use Rattle.lq_model.specs.declared.statement.Statement.{Statement}
use Rattle.lq_report.specs.Mark.{Marked}
use Rattle.lq_seen.specs.View.{any_meaning}
use Rattle.lq_turns.specs.Set.{inverses, Set}
use Rattle.lq_unrecorded.specs.Part.{counts_in, holder, is_back, number_in}
use Rattle.lq_mending.specs.Undoes.{IsPart, Passes, Standing, can_undo, made_in, standing_in}
use Rattle.lq_mending.specs.declared.outcome.RepairFault.{RepairFault}
use Rattle.lq_mending.specs.declared.outcome.RepairFault.TheVariants as fault
use Rattle.lq_mending.specs.declared.part.Part.{Part}

is_it : {A : Type 0} (e : RepairFault) → (let r : Result A RepairFault = Err e in r) ≡ Err fault.OutOfMemory → e ≡ fault.OutOfMemory
is_it e h = Prim.cc

ok_err : {A : Type 0} (x : A) → (let r : Result A RepairFault = Ok x in r) ≡ Err fault.OutOfMemory → ⊥
ok_err x h = Prim.cc

-- want of memory passes for each answer
pub no_memory : {A : Type 0} (refused : Option RepairFault) (r : Result A RepairFault) → r ≡ Err fault.OutOfMemory → Passes refused r
no_memory None (Err e) is = is_it e is
no_memory (Some refused) (Err e) is = inr (is_it e is)
no_memory refused (Ok x) is = absurd (ok_err x is)

-- the first check refuses
pub stops : (A B : Type 0) (a b : Option RepairFault) (e : RepairFault) → Passes {A = A} a (Err e) → Passes {A = B} (option_or a b) (Err e)
stops A B None None e is = is
stops A B None (Some refused) e is = inr is
stops A B (Some refused) b e is = is

-- it passes, and the second answers
pub goes_on : {A B : Type 0} (a b : Option RepairFault) (x : A) (r : Result B RepairFault) → Passes a (Ok x) → Passes b r → Passes (option_or a b) r
goes_on None b x r passed second = second
goes_on (Some refused) b x r passed second = absurd passed

-- the changeset may be taken back, or not
pub may_pass : {A : Type 0} (b : Bool) (refused : RepairFault) (x : A) → b ≡ true → Passes (if b then None else Some refused) (Ok x)
may_pass true refused x is = tt
may_pass false refused x is = absurd (clash is) where
  clash : false ≡ true → ⊥
  clash h = Prim.cc

pub may_not : (A : Type 0) (b : Bool) (refused e : RepairFault) → b ≡ false → (e ≡ refused) ⊎ (e ≡ fault.OutOfMemory) → Passes {A = A} (if b then None else Some refused) (Err e)
may_not A true refused e is same = absurd (clash is) where
  clash : true ≡ false → ⊥
  clash h = Prim.cc
may_not A false refused e is same = same

-- without a block: by the inverses
pub no_block : {A : Type 0} (block : Option A) (all some r : Bool) → is_some block ≡ false → r ≡ (is_some block || all) → all ≡ some → r ≡ (is_none block && some)
no_block None all some r none is same = is ∙ same
no_block (Some it) all some r none is same = absurd (clash none) where
  clash : true ≡ false → ⊥
  clash h = Prim.cc

-- no more statements stand than the mark counts
pub standing_within : (back set : Bool) (number most : ℕ) → number ≤ most → standing back set number ≤ most
standing_within false false number most le = le
standing_within true true number most le = le
standing_within false true zero most le = le
standing_within false true (suc number) most le = omega (arith, le)
standing_within true false zero most le = le
standing_within true false (suc number) most le = omega (arith, le)

-- what may be taken back, by the changeset's statements
pub can_of : (o : Options) (x : Set AnyChange) (digits : List ℕ) (can : Bool) (statements : List Statement) (many : ℕ) → statements ≡ made_in o x → many ≡ length statements
    → can ≡ (is_none x.rollback && (is_some (inverses o.dialect any_meaning x.changes) && counts_in many (plain_number digits))) → can_undo o x digits ≡ can
can_of o x digits can statements many same count is =
    ap (λ ss. is_none x.rollback && (is_some (inverses o.dialect any_meaning x.changes) && counts_in (length ss) (plain_number digits))) (sym same)
    ∙ (ap (λ n. is_none x.rollback && (is_some (inverses o.dialect any_meaning x.changes) && counts_in n (plain_number digits))) (sym count) ∙ sym is)

-- the part that stands, by the mark's number
pub part_is : (o : Options) (last : Option (List ℕ)) (lock : Lock) (mark : Marked) (x : Set AnyChange) (part : Part) (number : ℕ) → number ≡ number_in (plain_number mark.2)
    → part.count ≡ standing (is_back mark.1) (is_mark_text o.dialect (by_of lock) last) number → part.who ≡ holder lock → part.identity ≡ x.identity → part.statements ≡ made_in o x
    → IsPart o (standing_in o.dialect last lock mark (Some x)) lock part
part_is o last lock mark x part number numbers counts who identity statements = record {
  set = x;
  found_is = ap (λ n. (let p : Option Standing = Some (x, n) in p)) (sym (counts ∙ ap (standing (is_back mark.1) (is_mark_text o.dialect (by_of lock) last)) numbers));
  who = who;
  identity = identity;
  statements = statements;
}

pub within_by : (back set : Bool) (number count : ℕ) (all statements : List Statement) → statements ≡ all → count ≡ standing back set number → number ≤ length all → count ≤ length statements
within_by back set number count all statements same counts le =
    let most : standing back set number ≤ length all = standing_within back set number (length all) le in
    subst (λ n. n ≤ length statements) (sym counts) (subst (λ ss. standing back set number ≤ length ss) (sym same) most)

-- the same of an answer

pub may_be : {A : Type 0} (b : Bool) (refused : RepairFault) (r : Result A RepairFault) → b ≡ true → IfErr r (λ e. e ≡ fault.OutOfMemory) → Passes (if b then None else Some refused) r
may_be true refused (Ok x) is memory = tt
may_be true refused (Err e) is memory = memory
may_be false refused r is memory = absurd (clash is) where
  clash : false ≡ true → ⊥
  clash h = Prim.cc

pub is_the_part : (o : Options) (last : Option (List ℕ)) (lock : Lock) (mark : Marked) (x : Set AnyChange) (r : Result Part RepairFault) (number : ℕ) (statements : List Statement) → statements ≡ made_in o x
    → number ≡ number_in (plain_number mark.2) → IfOk r (λ (part : Part). part.count ≡ standing (is_back mark.1) (is_mark_text o.dialect (by_of lock) last) number) → IfOk r (λ (part : Part). part.who ≡ holder lock)
    → IfOk r (λ (part : Part). part.identity ≡ x.identity) → IfOk r (λ (part : Part). part.statements ≡ statements) → IfOk r (IsPart o (standing_in o.dialect last lock mark (Some x)) lock)
is_the_part o last lock mark x (Ok part) number statements same numbers counts who identity are = part_is o last lock mark x part number numbers counts who identity (are ∙ same)
is_the_part o last lock mark x (Err e) number statements same numbers counts who identity are = tt

pub all_stated : (d : Dialect) (r : Result Part RepairFault) (statements made : List Statement) → statements ≡ made → IfOk r (λ (part : Part). part.statements ≡ statements) → list_all (is_statement d) made ≡ true
    → IfOk r (λ (part : Part). list_all (is_statement d) part.statements ≡ true)
all_stated d (Ok part) statements made same are stated = subst (λ (ss : List Statement). list_all (is_statement d) ss ≡ true) (sym (are ∙ same)) stated
all_stated d (Err e) statements made same are stated = tt

pub all_within : (back set : Bool) (number : ℕ) (r : Result Part RepairFault) (statements : List Statement) → IfOk r (λ (part : Part). part.statements ≡ statements) → IfOk r (λ (part : Part). part.count ≡ standing back set number) → number ≤ length statements
    → IfOk r (λ (part : Part). part.count ≤ length part.statements)
all_within back set number (Ok part) statements are counts le = within_by back set number part.count statements part.statements are counts le
all_within back set number (Err e) statements are counts le = tt
