-- Checks one after another.
use Rattle.std.proofs.Common.{inl, inr, refl, subst, sym}
use Rattle.std.specs.Option.{option_or}
use Rattle.std.specs.Prelude.{Err, List, None, Ok, Option, Result, Some, [], is_some, true, ◌∷◌, ◌≡◌}
use Rattle.lq_base.specs.declared.identity.Identity.{Identity}
use Rattle.lq_tell.specs.declared.done.Done.{Done}
use Rattle.lq_tell.specs.declared.status.Status.{Status}
use Rattle.lq_tell.specs.declared.status.Status.TheVariants as status
use Rattle.lq_turns.specs.declared.fault.Fault.{Fault}
use Rattle.lq_commands.specs.Refusals.{Answers, IsFault, Passes, if_not, if_some}
use Rattle.lq_commands.specs.Works.{IsKept}

-- want of memory passes for each answer

is_it : {A : Type 0} (s : Status) → (let r : Result A Status = Err s in r) ≡ Err status.OutOfMemory → s ≡ status.OutOfMemory
is_it s h = Prim.cc

ok_err : {A : Type 0} (x : A) → (let r : Result A Status = Ok x in r) ≡ Err status.OutOfMemory → ⊥
ok_err x h = Prim.cc

pub no_memory : {A : Type 0} (a : Option Status) (r : Result A Status) → r ≡ Err status.OutOfMemory → Passes a r
no_memory None (Err s) is = is_it s is
no_memory (Some refused) (Err s) is = inr (is_it s is)
no_memory a (Ok x) is = absurd (ok_err x is)

pub failed : (a : Option Status) (s : Status) → IsFault s → Answers a (Err s)
failed None s is = is
failed (Some refused) s is = inr is

-- the first check refuses
pub stops : (A B : Type 0) (a b : Option Status) (s : Status) → Passes {A = A} a (Err s) → Passes {A = B} (option_or a b) (Err s)
stops A B None None s is = is
stops A B None (Some refused) s is = inr is
stops A B (Some refused) b s is = is

-- it passes, and the second answers
pub goes_on : {A B : Type 0} (a b : Option Status) (x : A) (r : Result B Status) → Passes a (Ok x) → Passes b r → Passes (option_or a b) r
goes_on None b x r passed second = second
goes_on (Some refused) b x r passed second = absurd passed

pub refuses : (A : Type 0) (a b : Option Status) (s : Status) → Passes {A = A} a (Err s) → Answers (option_or a b) (Err s)
refuses A None b s is = failed b s (inr is)
refuses A (Some refused) b s (inl is) = inl is
refuses A (Some refused) b s (inr is) = inr (inr is)

pub answers_on : {A : Type 0} (a b : Option Status) (x : A) (r : Result Done Status) → Passes a (Ok x) → Answers b r → Answers (option_or a b) r
answers_on None b x r passed second = second
answers_on (Some refused) b x r passed second = absurd passed

-- what passed is no refusal
pub none_of : {A : Type 0} (a : Option Status) (x : A) → Passes a (Ok x) → a ≡ None
none_of None x passed = refl
none_of (Some refused) x passed = absurd passed

pub kept_same : {S : Type 0} (a : Option Status) (before : S) → IsKept a before before
kept_same a before some = refl

pub refused_by : (A : Type 0) (a : Option Status) (s : Status) → Passes {A = A} a (Err s) → Answers a (Err s)
refused_by A None s is = inr is
refused_by A (Some refused) s (inl is) = inl is
refused_by A (Some refused) s (inr is) = inr (inr is)

some_none : {s : Status} → (let o : Option Status = Some s in o) ≡ None → ⊥
some_none h = Prim.cc

some_not : {of : Identity} → (let o : Option Identity = Some of in o) ≡ None → ⊥
some_not h = Prim.cc

none_not : {of : Identity} → (let o : Option Identity = None in o) ≡ Some of → ⊥
none_not h = Prim.cc

some_same : {a b : Identity} → (let o : Option Identity = Some a in o) ≡ Some b → a ≡ b
some_same h = Prim.cc

none_true : is_some (let o : Option Status = None in o) ≡ true → ⊥
none_true h = Prim.cc

pub kept_none : {S : Type 0} (a : Option Status) (before after : S) → a ≡ None → IsKept a before after
kept_none None before after is some = absurd (none_true some)
kept_none (Some refused) before after is some = absurd (some_none is)

-- the rows that a rollback takes back

pub ways_pass : {A : Type 0} (o : Option Identity) (ways : A) → o ≡ None → Passes (if_not o) (Ok ways)
ways_pass None ways is = tt
ways_pass (Some of) ways is = absurd (some_not is)

pub not_back : (A : Type 0) (o : Option Identity) (of : Identity) → o ≡ Some of → Passes {A = A} (if_not o) (Err (status.NotReversible of))
not_back A o of is = subst (λ (p : Option Identity). Passes {A = A} (if_not p) (Err (status.NotReversible of))) (sym is) (inl refl)

-- want of memory passes
pub lack : (A : Type 0) (a : Option Status) (s : Status) → s ≡ status.OutOfMemory → Passes {A = A} a (Err s)
lack A None s is = is
lack A (Some refused) s is = inr is

pub same_value : {A B : Type 0} (a : Option Status) (x : A) (y : B) → Passes a (Ok x) → Passes a (Ok y)
same_value None x y passed = tt
same_value (Some refused) x y passed = absurd passed

pub same_fault : (A B : Type 0) (a : Option Status) (s : Status) → Passes {A = A} a (Err s) → Passes {A = B} a (Err s)
same_fault A B None s is = is
same_fault A B (Some refused) s is = is

-- rows with which the changelog goes
pub faultless : {A : Type 0} (found : List Fault) (x : A) → Passes (if_some found) (Ok x) → found ≡ []
faultless [] x passed = refl
faultless (fault ∷ found) x passed = absurd passed
