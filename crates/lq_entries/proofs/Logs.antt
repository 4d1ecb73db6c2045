-- A journal's entries as a store sees them, after each call.
use Rattle.std.proofs.Common.{◌≡◌, ◌+◌, ◌<◌, ◌≤◌, ◌⊎◌, ◌↔◌, inl, inr, ℕ, Bool, true, false, List, [], ◌∷◌, ◌++◌, length, map, take, Ok, Err, Result, Option, None, Some, refl, sym, ◌∙◌, ap, subst, arith, length-append, nat_lt}
use Rattle.std.specs.List.{sum_by}
use Rattle.std.proofs.lemmas.List.Sums.{sum_by-cons}
use Rattle.std.specs.Option.{option_and_then, option_map}
use Rattle.std.proofs.lemmas.Bool.{ltb-true, lt-ltb}
use Rattle.std.proofs.lemmas.List.{append_assoc, append-nil, map-append}
use Rattle.lq_base.specs.declared.dialect.Dialect.{Dialect}
use Rattle.lq_frames.proofs.Numbers.{number-length}
use Rattle.lq_frames.proofs.Texts.{entry_of-length}
use Rattle.lq_frames.specs.Body.{framed_texts, number, size_of, journal_of, with_last, IsSameOrMore}
use Rattle.lq_frames.specs.declared.entry.Body.{Body}
use Rattle.lq_frames.specs.declared.entry.Body.TheVariants.{State, Texts}
use Rattle.lq_frames.specs.declared.entry.Entry.{Entry as Placed}
use Rattle.lq_journal.specs.State.{end_of as journal_end}
use Rattle.lq_model.specs.declared.caller.Room.{Room}
use Rattle.lq_model.specs.declared.caller.Room.TheVariants.{Ordinary, Release}
use Rattle.lq_store.specs.Journal.{Entry, end_of, entry_size, size_of_all}
use Rattle.lq_entries.specs.Log.{Log, as_entry, entries_in, gained, if_undamaged, unplaced, IsCut}

framed-length : (texts : List (List ℕ)) → length (framed_texts texts) ≡ sum_by (λ (text : List ℕ). 4 + length text) texts
framed-length [] = refl
framed-length (text ∷ texts) =
    let more = framed-length texts in
    let n = number-length (length text) in
    omega (arith, more, n, sum_by-cons (λ (text : List ℕ). 4 + length text) text texts, length-append (number (length text)) (text ++ framed_texts texts), length-append text (framed_texts texts), length-append (number (length text) ++ text) (framed_texts texts), length-append (number (length text)) text)

pub size_is : (what : Body) → size_of what ≡ entry_size (as_entry what)
size_is (Texts texts) = omega (arith, entry_of-length (Texts texts), framed-length texts)
size_is (State bytes) = omega (arith, entry_of-length (State bytes))

pub texts_size : (texts : List (List ℕ)) → size_of (Texts texts) ≡ entry_size (as_entry (Texts texts))
texts_size texts = size_is (Texts texts)

if_undamaged-with_last : (at : ℕ) (t : Body) (j : Option (Result (List Placed) ℕ)) → option_and_then if_undamaged (option_map (with_last at t) j) ≡ option_map (λ entries. entries ++ as_entry t ∷ []) (option_and_then if_undamaged j)
if_undamaged-with_last at t None = refl
if_undamaged-with_last at t (Some (Ok entries)) = ap Some (map-append unplaced entries (record { at = at; body = t } ∷ []))
if_undamaged-with_last at t (Some (Err place)) = refl

abbrev pub log : Dialect → ℕ → ℕ → Option (List Entry) → Log
log d l u x = record { dialect = d; limit = l; used = u; entries = x }

pub log_is : (d e : Dialect) (l m u v : ℕ) (x y : Option (List Entry)) → d ≡ e → l ≡ m → u ≡ v → x ≡ y → log d l u x ≡ log e m v y
log_is d e l m u v x y p q r s = rw (p, q, r, s) refl

-- the entries at the dialect and limit of the journal after a call
pub entries_same : (d e : Dialect) (l m : ℕ) (told now : Option (List ℕ)) → e ≡ d → m ≡ l
    → option_map (journal_of d l) now ≡ option_map (journal_of d l) told → entries_in e m now ≡ entries_in d l told
entries_same d e l m told now p q same = rw (p, q) (ap (option_and_then if_undamaged) same)

pub entries_more : (d e f : Dialect) (l m n : ℕ) (told staged now : Option (List ℕ)) (at : ℕ) (t : Body) → e ≡ d → m ≡ l → f ≡ e → n ≡ m
    → option_map (journal_of d l) staged ≡ option_map (journal_of d l) told
    → option_map (journal_of e m) now ≡ option_map (with_last at t) (option_map (journal_of e m) staged)
    → entries_in f n now ≡ option_map (λ entries. entries ++ as_entry t ∷ []) (entries_in d l told)
entries_more d e f l m n told staged now at t p q r s same added =
    entries_same e f m n now now r s refl
    ∙ (ap (option_and_then if_undamaged) added
    ∙ (if_undamaged-with_last at t (option_map (journal_of e m) staged)
    ∙ ap (option_map (λ (entries : List Entry). entries ++ as_entry t ∷ [])) (entries_same d e l m told staged p q same)))

no_more : (entries : Option (List Entry)) → entries ≡ option_map (λ entries. entries ++ []) entries
no_more None = refl
no_more (Some entries) = ap Some (sym (append-nil entries))

-- nothing was written
pub cut_none : (written : List Entry) (x y : Log) → y.dialect ≡ x.dialect → y.limit ≡ x.limit → y.entries ≡ x.entries → IsCut written x y
cut_none written x y p q r = record { dialect_is = p; limit_is = q; front = []; is_front = (written, refl); entries_are = r ∙ no_more x.entries }

pub cut_one : (t : Entry) (x y : Log) → y.dialect ≡ x.dialect → y.limit ≡ x.limit → y.entries ≡ option_map (λ entries. entries ++ t ∷ []) x.entries → IsCut (t ∷ []) x y
cut_one t x y p q r = record { dialect_is = p; limit_is = q; front = t ∷ []; is_front = ([], refl); entries_are = r }

-- the entry was written or not
pub cut_maybe : (d e f : Dialect) (l m n u v : ℕ) (told staged now : Option (List ℕ)) (at : ℕ) (t : Body) → e ≡ d → m ≡ l → f ≡ e → n ≡ m
    → option_map (journal_of d l) staged ≡ option_map (journal_of d l) told
    → IsSameOrMore at t (option_map (journal_of e m) staged) (option_map (journal_of e m) now)
    → IsCut (as_entry t ∷ []) (log d l u (entries_in d l told)) (log f n v (entries_in f n now))
cut_maybe d e f l m n u v told staged now at t p q r s same (inl kept) =
    cut_none (as_entry t ∷ []) _ _ (r ∙ p) (s ∙ q) (entries_same e f m n staged now r s kept ∙ entries_same d e l m told staged p q same)
cut_maybe d e f l m n u v told staged now at t p q r s same (inr added) =
    cut_one (as_entry t) _ _ (r ∙ p) (s ∙ q) (entries_more d e f l m n told staged now at t p q r s same added)

end_is : (room : Room) (l : ℕ) → journal_end room l ≡ end_of room l
end_is Ordinary l = refl
end_is Release l = refl

not_less : (a b : ℕ) → (a < b → ⊥) → nat_lt a b ≡ false
not_less a b never = by (nat_lt a b) refl
  where
    by : (t : Bool) → nat_lt a b ≡ t → nat_lt a b ≡ false
    by true is = absurd (never (ltb-true a b is))
    by false is = is

all_of_one : (u v : ℕ) (t : Body) → v ≡ u → v + size_of t ≡ u + size_of_all (as_entry t ∷ [])
all_of_one u v t p = omega (arith, size_is t, p)

pub has_room : (room : Room) (l m u v : ℕ) (t : Body) → m ≡ l → v ≡ u → (journal_end room m < v + size_of t → ⊥) → nat_lt (end_of room l) (u + size_of_all (as_entry t ∷ [])) ≡ false
has_room room l m u v t p q never =
    not_less _ _ (λ less. never (rw (p, end_is room l, all_of_one u v t q) less))

pub lacks_room : (room : Room) (l m u v : ℕ) (t : Body) → m ≡ l → v ≡ u → journal_end room m < v + size_of t → nat_lt (end_of room l) (u + size_of_all (as_entry t ∷ [])) ≡ true
lacks_room room l m u v t p q less =
    let here : end_of room l < u + size_of_all (as_entry t ∷ []) = rw (p, end_is room l, all_of_one u v t q) at less in
    lt-ltb (end_of room l) (u + size_of_all (as_entry t ∷ [])) here
