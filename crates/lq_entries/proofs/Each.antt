-- Entries added one by one.
use Rattle.std.proofs.Common.{◌≡◌, ◌∙◌, ◌+◌, ◌<◌, ◌≤◌, ℕ, Bool, true, false, List, [], ◌∷◌, ◌++◌, length, nat_lt, Option, None, Some, refl, sym, ap, subst, arith, take, drop, suc, get_or}
use Rattle.std.specs.Option.{option_map}
use Rattle.std.proofs.Math.Seq.{take-suc}
use Rattle.std.proofs.lemmas.Bool.{ltb-true, lt-ltb}
use Rattle.std.proofs.lemmas.List.{append-nil, append_assoc, map-append, take-append-drop}
use Rattle.std.proofs.lemmas.List.Sums.{sum_by-append}
use Rattle.lq_entries.specs.Log.{IsCut, Log, gained}
use Rattle.lq_entries.proofs.Both.{crash_first, crash_second, cut_first, cut_second, gained_both}
use Rattle.lq_entries.proofs.Logs.{size_is}
use Rattle.lq_frames.specs.Body.{size_of}
use Rattle.lq_frames.specs.declared.entry.Body.TheVariants as body
use Rattle.lq_model.proofs.Lists.{true_false}
use Rattle.lq_model.specs.declared.caller.Room.{Room}
use Rattle.lq_store.specs.Journal.{Crashes, LeavesFront, Entry, end_of, entry_size, is_full, of_texts, size_of_all}
use Rattle.lq_store.specs.Journal.Entry.{Texts}

-- the entries in front of one, it, and those behind it
pub parts : (ts : List (List (List ℕ))) (i : ℕ) (d e : List (List ℕ)) → i < length ts → get_or ts i d ≡ e → of_texts (take (i + 1) ts) ≡ of_texts (take i ts) ++ Texts e ∷ []
parts ts i d e less is = ap of_texts ((let next : i + 1 ≡ suc i = omega arith in rw next (take-suc ts i d less)) ∙ ap (λ (e : List (List ℕ)). take i ts ++ e ∷ []) is) ∙ map-append Texts (take i ts) (e ∷ [])

pub whole : (ts : List (List (List ℕ))) (i : ℕ) → of_texts ts ≡ of_texts (take i ts) ++ of_texts (drop i ts)
whole ts i = ap of_texts (sym (take-append-drop i ts)) ∙ map-append Texts (take i ts) (drop i ts)

pub sized : (front more : List Entry) (e : List (List ℕ)) (a b s : ℕ) → more ≡ front ++ Texts e ∷ [] → a ≡ size_of_all front → s ≡ size_of (body.Texts e) → b ≡ a + s → b ≡ size_of_all more
sized front more e a b s next a_is s_is b_is =
    let total : size_of_all more ≡ size_of_all front + size_of_all (Texts e ∷ []) = ap size_of_all next ∙ sum_by-append (λ entry. entry_size entry) front (Texts e ∷ []) in
    omega (arith, total, a_is, s_is, b_is, size_is (body.Texts e))

pub gained_none : (x : Log) → x ≡ gained [] x
gained_none x = rw (none x.entries, same x.used) refl
  where
    none : (entries : Option (List Entry)) → option_map (λ entries. entries ++ []) entries ≡ entries
    none None = refl
    none (Some entries) = ap Some (append-nil entries)

    same : (used : ℕ) → used + 0 ≡ used
    same used = omega arith

full_middle : (end used : ℕ) (vs : List Entry) (w : Entry) (ws : List Entry) → is_full end used (vs ++ w ∷ ws) ≡ nat_lt end (used + size_of_all (vs ++ w ∷ ws))
full_middle end used [] w ws = refl
full_middle end used (v ∷ vs) w ws = refl

-- a step more

module _ (es front more rest : List Entry) (e : Entry) (next : more ≡ front ++ e ∷ []) (all : es ≡ more ++ rest) (x m y : Log) (logged : m ≡ gained front x) where
  pub gained_next : y ≡ gained (e ∷ []) m → y ≡ gained more x
  gained_next gains = gained_both front (e ∷ []) x m y logged gains ∙ ap (λ (written : List Entry). gained written x) (sym next)

  pub cut_next : IsCut (e ∷ []) m y → IsCut es x y
  cut_next cut =
      subst (λ (written : List Entry). IsCut written x y) (sym all)
      (cut_first more rest x y (subst (λ (written : List Entry). IsCut written x y) (sym next) (cut_second front (e ∷ []) x m y logged cut)))

  pub crash_next : (a b c : Crashes) → LeavesFront x.entries front a b → LeavesFront m.entries (e ∷ []) b c → LeavesFront x.entries more a c
  crash_next a b c first second =
      subst (λ (written : List Entry). LeavesFront x.entries written a c) (sym next)
      (crash_second x.entries m.entries front (e ∷ []) a b c first (ap (λ (l : Log). l.entries) logged) second)

  pub crash_cut : (a b c : Crashes) → LeavesFront x.entries front a b → LeavesFront m.entries (e ∷ []) b c → LeavesFront x.entries es a c
  crash_cut a b c first second =
      subst (λ (written : List Entry). LeavesFront x.entries written a c) (sym all)
      (crash_first x.entries more rest a c (crash_next a b c first second))

  -- it has room where all have
  pub has_room : (room : Room) → is_full (end_of room x.limit) x.used es ≡ false → is_full (end_of room m.limit) m.used (e ∷ []) ≡ true → ⊥
  has_room room fits full =
      let limit : m.limit ≡ x.limit = ap (λ (l : Log). l.limit) logged in
      let used : m.used ≡ x.used + size_of_all front = ap (λ (l : Log). l.used) logged in
      let past : end_of room x.limit < (x.used + size_of_all front) + size_of_all (e ∷ []) = ltb-true _ _ (rw (limit, used) at full) in
      let size : size_of_all es ≡ (size_of_all front + size_of_all (e ∷ [])) + size_of_all rest =
      ap size_of_all all ∙ (sum_by-append (λ entry. entry_size entry) more rest ∙ ap (λ (n : ℕ). n + size_of_all rest) (ap size_of_all next ∙ sum_by-append (λ entry. entry_size entry) front (e ∷ [])))
      in
      let over : end_of room x.limit < x.used + size_of_all es = omega (arith, past, size) in
      true_false (full_is (end_of room x.limit) x.used ∙ lt-ltb _ _ over) fits
    where
      full_is : (end used : ℕ) → is_full end used es ≡ nat_lt end (used + size_of_all es)
      full_is end used =
          let here : front ++ (e ∷ rest) ≡ es = sym (append_assoc front (e ∷ []) rest) ∙ (ap (λ (l : List Entry). l ++ rest) (sym next) ∙ sym all) in
          subst (λ (es : List Entry). is_full end used es ≡ nat_lt end (used + size_of_all es)) here (full_middle end used front e rest)
