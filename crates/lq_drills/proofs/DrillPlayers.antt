-- The commands of a drill become players, each with its own name and reading.
use Rattle.std.proofs.Common.{ap, arith, inl, inr, refl, subst, sym, ◌∙◌}
use Rattle.std.proofs.lemmas.Bool.Decides.{nat_tests}
use Rattle.std.proofs.lemmas.Fmt.{decimal_injective}
use Rattle.std.proofs.lemmas.List.{append_assoc, append-nil, append_cancel_left, length-append}
use Rattle.std.proofs.lemmas.List.Elements.{All-cons, All-nil}
use Rattle.std.proofs.lemmas.List.Folds.{list_any-append}
use Rattle.std.proofs.lemmas.Option.{slice_get_within}
use Rattle.std.specs.Char.{is_ascii_digit}
use Rattle.std.specs.Fmt.{decimal}
use Rattle.std.specs.List.{All, list_all, list_any, remove}
use Rattle.std.specs.Option.{option_map}
use Rattle.std.specs.Prelude.{IfSome, List, None, Option, Some, [], codes, false, length, nat_eq, nat_lt, slice_get, suc, true, zero, ℕ, ◌++◌, ◌<◌, ◌==◌, ◌^◌, ◌||◌, ◌∷◌, ◌≡◌, ◌≤◌, ◌⊎◌}
use Rattle.lq_base.proofs.SpacedLemmas.{decimal_digits}
use Rattle.lq_base.specs.declared.command.Command.{Command}
use Rattle.lq_base.specs.declared.dialect.Dialect.{Dialect}
use Rattle.lq_base.specs.declared.tracking.Lock.{Lock}
use Rattle.lq_commands.specs.Stamp.{numbered}
use Rattle.lq_any.specs.declared.any_change.AnyChange.{AnyChange}
use Rattle.lq_model.proofs.Lists.{and_right, any_none}
use Rattle.lq_players.specs.AnyCommand.{IsUnstarted, Starts, command_stands, HasTask, HaveTasks}
use Rattle.lq_players.specs.Tasks.{work_of}
use Rattle.lq_players.specs.declared.any_command.AnyCommand.{AnyCommand}
use Rattle.lq_outside.specs.Forms.{after_first}
use Rattle.lq_run.specs.Stands.{IsHeld}
use Rattle.lq_turns.specs.Jobs.{Task}
use Rattle.lq_drills.proofs.Readings.{no_readings, read_more}
use Rattle.lq_jobs.specs.Kinds.{ReadInTurn, ReadUpTo}
use Rattle.lq_drills.specs.Drilled.{commands_of}
use Rattle.lq_drills.specs.Players.{ArePlayers, task_by}
use Rattle.lq_jobs.specs.declared.entrants.Entrant.{Entrant}

-- lists by their places

none_some : {A B : Type 0} {a : A} → (let o : Option A = None in o) ≡ Some a → B
none_some h = Prim.cc

some_is : {A : Type 0} {a b : A} → Some a ≡ Some b → a ≡ b
some_is h = Prim.cc

-- an element of a list that is one longer is one of those before, or the last
pub at_end : {A : Type 0} (xs : List A) (last : A) (place : ℕ) (x : A) → slice_get (xs ++ last ∷ []) place ≡ Some x → (slice_get xs place ≡ Some x) ⊎ ((place ≡ length xs) × (x ≡ last))
at_end [] last zero x is = inr (refl, sym (some_is is))
at_end [] last (suc place) x is = none_some is
at_end (y ∷ xs) last zero x is = inl is
at_end (y ∷ xs) last (suc place) x is =
    elim (at_end xs last place x is) [
      | inl before ↦ inl before
      | inr it ↦ inr (ap suc it.0, it.1)
    ]

pub one_longer : {A : Type 0} (xs : List A) (last : A) → length (xs ++ last ∷ []) ≡ suc (length xs)
one_longer [] last = refl
one_longer (x ∷ xs) last = ap suc (one_longer xs last)

pub there : {A : Type 0} (xs : List A) (place : ℕ) → place < length xs → (x : A) × (slice_get xs place ≡ Some x)
there [] place less = absurd (omega (arith, less))
there (x ∷ xs) zero less = (x, refl)
there (x ∷ xs) (suc place) less = there xs place (omega (arith, less))

by_places : {A : Type 0} (P : A → Type 0) (xs : List A) → ((place : ℕ) (x : A) → slice_get xs place ≡ Some x → P x) → All P xs
by_places P [] each = All-nil P
by_places P (x ∷ xs) each = All-cons P x xs (each 0 x refl) (by_places P xs (λ place y is. each (suc place) y is))

commands_more : (entrants : List Entrant) (e : Entrant) → commands_of (entrants ++ e ∷ []) ≡ commands_of entrants ++ e.command ∷ []
commands_more [] e = refl
commands_more (first ∷ entrants) e = ap (λ (more : List Command). first.command ∷ more) (commands_more entrants e)

-- names without a bar, which differ

digit_no_bar : (b : ℕ) → is_ascii_digit b ≡ true → (b == 124) ≡ false
digit_no_bar b is = grind (arith, nat_tests, is)

decimal_bare : (n : ℕ) → n < 2 ^ 64 → list_any (λ b. b == 124) (decimal n) ≡ false
decimal_bare n small = any_none (λ b. b == 124) is_ascii_digit (decimal n) digit_no_bar (and_right (nat_lt 0 (length (decimal n))) (list_all is_ascii_digit (decimal n)) (decimal_digits n small))

pub numbered_bare : (name : List ℕ) (n : ℕ) → n < 2 ^ 64 → list_any (λ b. b == 124) name ≡ false → list_any (λ b. b == 124) (numbered name n) ≡ false
numbered_bare name n small bare =
    list_any-append (λ b. b == 124) name (codes "#" ++ decimal n)
    ∙ ap (λ one. one || list_any (λ b. b == 124) (codes "#" ++ decimal n)) bare
    ∙ decimal_bare n small

numbers_differ : (name : List ℕ) (p q : ℕ) → p < 2 ^ 64 → q < 2 ^ 64 → numbered name p ≡ numbered name q → p ≡ q
numbers_differ name p q few fewer same =
    decimal_injective p q few fewer (append_cancel_left (codes "#") (decimal p) (decimal q) (append_cancel_left name (codes "#" ++ decimal p) (codes "#" ++ decimal q) same))

-- one player after another

pub no_players : (d : Dialect) (name : List ℕ) → ArePlayers d name [] [] [] []
no_players d name = record { as_many = (refl, refl); named = refl; starts = λ place e reading player is. none_some is }

module _ (d : Dialect) (name : List ℕ) (entrants : List Entrant) (readings : List ℕ) (players : List AnyCommand) (commands : List Command) (are : ArePlayers d name entrants readings players commands) where
  -- of three lists of one length, at one place
  last_start : (e : Entrant) (reading : ℕ) (player : AnyCommand) → Starts false d (task_by name (suc (length players)) e reading) player
      → (place : ℕ) (f : Entrant) (r : ℕ) (p : AnyCommand) → place ≡ length entrants → f ≡ e → r ≡ reading → p ≡ player → Starts false d (task_by name (suc place) f r) p
  last_start e reading player starts place f r p at same_e same_r same_p =
      subst (λ p. Starts false d (task_by name (suc place) f r) p) (sym same_p)
      (subst (λ r. Starts false d (task_by name (suc place) f r) player) (sym same_r)
      (subst (λ f. Starts false d (task_by name (suc place) f reading) player) (sym same_e)
      (subst (λ n. Starts false d (task_by name (suc n) e reading) player) (are.as_many.1 ∙ sym at) starts)))

  pub one_joined : (e : Entrant) (reading : ℕ) (player : AnyCommand) → Starts false d (task_by name (suc (length players)) e reading) player
      → ArePlayers d name (entrants ++ e ∷ []) (readings ++ reading ∷ []) (players ++ player ∷ []) (commands ++ e.command ∷ [])
  one_joined e reading player starts = record {
    as_many = (one_longer readings reading ∙ ap suc are.as_many.0 ∙ sym (one_longer entrants e), one_longer players player ∙ ap suc are.as_many.1 ∙ sym (one_longer entrants e));
    named = ap (λ (all : List Command). all ++ e.command ∷ []) are.named ∙ sym (commands_more entrants e);
    starts = λ place f r p is_f is_r is_p.
        elim (at_end entrants e place f is_f) [
          | inl early ↦ elim (at_end readings reading place r is_r) [
            | inl early_r ↦ elim (at_end players player place p is_p) [
              | inl early_p ↦ are.starts place f r p early early_r early_p
              | inr late_p ↦ absurd (omega (arith, slice_get_within entrants place f early, late_p.0, are.as_many.1))
            ]
            | inr late_r ↦ absurd (omega (arith, slice_get_within entrants place f early, late_r.0, are.as_many.0))
          ]
          | inr late ↦ elim (at_end readings reading place r is_r) [
            | inl early_r ↦ absurd (omega (arith, slice_get_within readings place r early_r, late.0, are.as_many.0))
            | inr late_r ↦ elim (at_end players player place p is_p) [
              | inl early_p ↦ absurd (omega (arith, slice_get_within players place p early_p, late.0, are.as_many.1))
              | inr late_p ↦ last_start e reading player starts place f r p late.0 late.1 late_r.1 late_p.1
            ]
          ]
        ];
  }

  -- each player of them
  pub record Started (place : ℕ) (player : AnyCommand) : Type 0 where
    pub entrant : Entrant
    pub is_entrant : slice_get entrants place ≡ Some entrant
    pub reading : ℕ
    pub is_reading : slice_get readings place ≡ Some reading
    pub starts : Starts false d (task_by name (suc place) entrant reading) player

  pub started : (place : ℕ) (player : AnyCommand) → slice_get players place ≡ Some player → Started place player
  started place player is =
      let within = slice_get_within players place player is in
      let e = there entrants place (omega (arith, within, are.as_many.1)) in
      let r = there readings place (omega (arith, within, are.as_many.0, are.as_many.1)) in
      record { entrant = e.0; is_entrant = e.1; reading = r.0; is_reading = r.1; starts = are.starts place e.0 r.0 player e.1 r.1 is }

  pub are_unstarted : All (IsUnstarted d) players
  are_unstarted = by_places (IsUnstarted d) players (λ place player is. (started place player is).starts.unstarted)

  -- their tasks
  module _ (tasks : ℕ → Task AnyChange) (own : (place : ℕ) (e : Entrant) (reading : ℕ) → slice_get entrants place ≡ Some e → slice_get readings place ≡ Some reading → tasks (suc place) ≡ task_by name (suc place) e reading)
      (bare : list_any (λ b. b == 124) name ≡ false) (few : length entrants ≤ 64) where
    number_small : (place : ℕ) (player : AnyCommand) → slice_get players place ≡ Some player → suc place < 2 ^ 64
    number_small place player is = omega (arith, slice_get_within players place player is, are.as_many.1, few)

    name_is : (place : ℕ) (player : AnyCommand) → slice_get players place ≡ Some player → (tasks (suc place)).stamp.who ≡ numbered name (suc place)
    name_is place player is = let it = started place player is in ap (λ (t : Task AnyChange). t.stamp.who) (own place it.entrant it.reading it.is_entrant it.is_reading)

    has_task : (place : ℕ) (player : AnyCommand) → slice_get players place ≡ Some player → HasTask d tasks (suc place) (command_stands player)
    has_task place player is =
        let it = started place player is in
        let same = sym (own place it.entrant it.reading it.is_entrant it.is_reading) in
        record {
          job = it.starts.job ∙ ap (work_of false d) same;
          owns = subst (λ (t : Task AnyChange). (lock : Lock) → (command_stands player).owns lock → IsHeld t.stamp lock) same it.starts.owns;
          bare = ap (list_any (λ b. b == 124)) (name_is place player is) ∙ numbered_bare name (suc place) (number_small place player is) bare;
        }

    equal_not : (p q : ℕ) → suc p ≡ suc q → nat_eq p q ≡ false → ⊥
    equal_not p q same differ = grind (arith, nat_tests, same, differ)

    pub have_tasks : HaveTasks d tasks players
    have_tasks = record {
      each = has_task;
      differ = λ p q one two is_one is_two other same.
          equal_not p q (numbers_differ name (suc p) (suc q) (number_small p one is_one) (number_small q two is_two) (sym (name_is p one is_one) ∙ same ∙ name_is q two is_two)) other;
    }

-- some of the commands have become players, and the others are to come
pub record Casting (d : Dialect) (name : List ℕ) (all : List Entrant) (coming now : Option (List ℕ)) (entrants : List Entrant) (players : List AnyCommand) (commands : List Command) : Type 0 where
  pub front : List Entrant
  pub is : all ≡ front ++ entrants
  pub readings : List ℕ
  pub read : ReadInTurn coming now readings
  pub are : ArePlayers d name front readings players commands

pub none_cast : (d : Dialect) (name : List ℕ) (all : List Entrant) (coming : Option (List ℕ)) → Casting d name all coming coming all [] []
none_cast d name all coming = record { front = []; is = refl; readings = []; read = no_readings coming; are = no_players d name }

module _ (d : Dialect) (name : List ℕ) (all : List Entrant) (coming now : Option (List ℕ)) (entrants : List Entrant) (players : List AnyCommand) (commands : List Command) (so : Casting d name all coming now entrants players commands) where
  first_out : (rest : List Entrant) (e : Entrant) → slice_get rest 0 ≡ Some e → rest ≡ e ∷ remove rest 0
  first_out [] e is = none_some is
  first_out (first ∷ rest) e is = ap (λ f. f ∷ rest) (some_is is)

  -- the next becomes one
  pub one_cast : (e : Entrant) → slice_get entrants 0 ≡ Some e → (reading : ℕ) (after : Option (List ℕ)) → IfSome now (λ answers. slice_get answers 0 ≡ Some reading) → after ≡ option_map after_first now
      → (player : AnyCommand) → Starts false d (task_by name (suc (length players)) e reading) player → Casting d name all coming after (remove entrants 0) (players ++ player ∷ []) (commands ++ e.command ∷ [])
  one_cast e is reading after first rest player starts = record {
    front = so.front ++ e ∷ [];
    is = so.is ∙ ap (λ (more : List Entrant). so.front ++ more) (first_out entrants e is) ∙ sym (append_assoc so.front (e ∷ []) (remove entrants 0));
    readings = so.readings ++ reading ∷ [];
    read = read_more coming now after so.readings reading so.read first rest;
    are = one_joined d name so.front so.readings players commands so.are e reading player starts;
  }

  -- all are players
  pub all_cast : entrants ≡ [] → (readings : List ℕ) × ReadInTurn coming now readings × ArePlayers d name all readings players commands
  all_cast none = (so.readings, so.read, subst (λ all. ArePlayers d name all so.readings players commands) (sym (so.is ∙ ap (λ (more : List Entrant). so.front ++ more) none ∙ append-nil so.front)) so.are)

  longer : (front : List Entrant) (rest : List Entrant) (e : Entrant) → all ≡ front ++ rest → slice_get rest 0 ≡ Some e → suc (length front) ≤ length all
  longer front rest e is there = omega (arith, ap (λ (l : List Entrant). length l) is, length-append front rest, slice_get_within rest 0 e there)

  -- there is no memory for the next, whose reading was made
  pub cut_cast : (e : Entrant) → slice_get entrants 0 ≡ Some e → (reading : ℕ) (after : Option (List ℕ)) → IfSome now (λ answers. slice_get answers 0 ≡ Some reading) → after ≡ option_map after_first now → ReadUpTo (length all) coming after
  cut_cast e is reading after first rest =
      (so.readings ++ reading ∷ [], omega (arith, one_longer so.readings reading, so.are.as_many.0, longer so.front entrants e so.is is), read_more coming now after so.readings reading so.read first rest)
