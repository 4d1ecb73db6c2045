-- A call on the way to the last session.
use Rattle.std.proofs.Common.{ap, refl, subst, sym, ◌∙◌}
use Rattle.std.proofs.lemmas.List.{append_assoc}
use Rattle.std.specs.Prelude.{Bool, List, [], false, true, ◌++◌, ◌||◌, ◌∷◌, ◌≡◌}
use Rattle.lq_base.specs.declared.dialect.Dialect.{Dialect}
use Rattle.lq_model.specs.declared.caller.Room.{Room}
use Rattle.lq_model.specs.declared.caller.Room.TheVariants.{Ordinary, Release}
use Rattle.lq_run.proofs.Grows.{calls_grow}
use Rattle.lq_run.specs.Ends.{IsBefore}
use Rattle.lq_run.specs.Stands.{no_changes}
use Rattle.lq_turns.specs.Deed.{Contents, contents_of, contents_after}
use Rattle.lq_turns.specs.Session.{Both, are_accepted, went, Session, all_called, called, room_of}
use Rattle.lq_turns.specs.Rest.{Inside, NoMore, if_goes_on, rest, turns_calls}
use Rattle.lq_turns.specs.Script.{closing}
use Rattle.lq_turns.specs.Turn.{made, made_on}
use Rattle.lq_turns.specs.declared.call.Call.{Call}
use Rattle.lq_turns.specs.declared.call.Call.TheVariants.{Abort, Alone, Begin, Commit, Execute}
use Rattle.lq_turns.specs.declared.stamp.Stamp.{Stamp}
use Rattle.lq_mending.specs.Comes.{at_end}

head_is : {c k : Call} {cs ks : List Call} → c ∷ cs ≡ k ∷ ks → c ≡ k
head_is h = Prim.cc

rooms_differ : (let room : Room = Ordinary in room) ≡ Release → ⊥
rooms_differ h = Prim.cc

-- the first of calls that are made is the first of them
first_made : (d : Dialect) (call : Call) (calls others tail : List Call) (c : Contents) (next : Call) (more : List Call) → made d (call ∷ calls) c ++ others ++ tail ≡ next ∷ more → call ≡ next
first_made d Begin calls others tail c next more is = head_is is
first_made d (Execute deed) calls others tail c next more is = head_is is
first_made d Commit calls others tail c next more is = head_is is
first_made d Abort calls others tail c next more is = head_is is
first_made d (Alone deeds room) calls others tail c next more is = head_is is

pub none_come : (d : Dialect) (stamp : Stamp) (b : Bool) (c : Contents) → turns_calls d no_changes stamp (if_goes_on b NoMore) c ≡ []
none_come d stamp true c = refl
none_come d stamp false c = refl

-- a call of a turn that comes next is the first in hand
pub is_first : (d : Dialect) (stamp : Stamp) (calls : List Call) (on : Bool) (x : Both) (next : Call) (more : List Call) → rest d no_changes stamp (Inside calls on NoMore) x ≡ next ∷ more → room_of next ≡ Ordinary
    → (left : List Call) × (calls ≡ next ∷ left)
is_first d stamp [] on x next more is room =
    let last : closing ∷ [] ≡ next ∷ more = ap (λ cs. cs ++ closing ∷ []) (sym (none_come d stamp (are_accepted d [] x.1 || on) (went d [] x).0)) ∙ is in
    absurd (rooms_differ (sym room ∙ ap room_of (sym (head_is last))))
is_first d stamp (call ∷ calls) on x next more is room =
    (calls, ap (λ c. c ∷ calls) (first_made d call calls (turns_calls d no_changes stamp (if_goes_on (are_accepted d (call ∷ calls) x.1 || on) NoMore) (went d (call ∷ calls) x).0) (closing ∷ []) x.1 next more is))

-- the session after it is before the last one
next_before : (d : Dialect) (call : Call) (calls tail : List Call) (s : Session) → IsBefore (called d call s) (at_end d (call ∷ calls) tail s)
next_before d Begin calls tail s = calls_grow d (made d (calls ++ tail) (contents_of s.seen)) (called d Begin s)
next_before d (Execute deed) calls tail s = calls_grow d (made_on (made d (calls ++ tail)) (contents_after d deed (contents_of s.seen))) (called d (Execute deed) s)
next_before d Commit calls tail s = calls_grow d (made d (calls ++ tail) (contents_of s.seen)) (called d Commit s)
next_before d Abort calls tail s = calls_grow d (made d (calls ++ tail) (contents_of s.seen)) (called d Abort s)
next_before d (Alone deeds room) calls tail s = calls_grow d (made d (calls ++ tail) (contents_of s.seen)) (called d (Alone deeds room) s)

pub before_end : (d : Dialect) (calls left tail : List Call) (call : Call) (s : Session) → calls ≡ call ∷ left → IsBefore (called d call s) (at_end d calls tail s)
before_end d calls left tail call s is = subst (λ cs. IsBefore (called d call s) (at_end d cs tail s)) (sym is) (next_before d call left tail s)

-- and the next call and others lead there
next_to_end : (d : Dialect) (call : Call) (calls tail : List Call) (s : Session) → (others : List Call) × (all_called d (call ∷ others) s ≡ at_end d (call ∷ calls) tail s)
next_to_end d Begin calls tail s = (made d (calls ++ tail) (contents_of s.seen), refl)
next_to_end d (Execute deed) calls tail s = (made_on (made d (calls ++ tail)) (contents_after d deed (contents_of s.seen)), refl)
next_to_end d Commit calls tail s = (made d (calls ++ tail) (contents_of s.seen), refl)
next_to_end d Abort calls tail s = (made d (calls ++ tail) (contents_of s.seen), refl)
next_to_end d (Alone deeds room) calls tail s = (made d (calls ++ tail) (contents_of s.seen), refl)

pub on_to_end : (d : Dialect) (calls left tail : List Call) (call : Call) (s : Session) → calls ≡ call ∷ left → (others : List Call) × (all_called d (call ∷ others) s ≡ at_end d calls tail s)
on_to_end d calls left tail call s is = subst (λ cs. (others : List Call) × (all_called d (call ∷ others) s ≡ at_end d cs tail s)) (sym is) (next_to_end d call left tail s)

pub end_before : (d : Dialect) (calls tail : List Call) (s : Session) → IsBefore s (at_end d calls tail s)
end_before d calls tail s = calls_grow d (made d (calls ++ tail) (contents_of s.seen)) s

pub then_before : (s t u : Session) → IsBefore s t → IsBefore t u → IsBefore s u
then_before s t u first second = record { more = first.more ++ second.more; entries = second.entries ∙ ap (λ es. es ++ second.more) first.entries ∙ append_assoc s.entries first.more second.more }
