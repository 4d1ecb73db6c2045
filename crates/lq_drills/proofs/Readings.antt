-- Readings of a clock, one after another.
use Rattle.std.proofs.Common.{ap, arith, inl, inr, refl, subst, sym, ◌∙◌}
use Rattle.std.specs.Option.{option_map}
use Rattle.std.specs.Prelude.{IfSome, List, None, Option, Some, [], length, slice_get, suc, zero, ℕ, ◌++◌, ◌∷◌, ◌≡◌, ◌≤◌, ◌⊎◌}
use Rattle.lq_commands.specs.Stamp.{ReadOnce}
use Rattle.lq_outside.specs.Forms.{after_first}
use Rattle.lq_jobs.specs.Kinds.{ReadAtMostOnce, ReadInTurn, ReadUpTo, after_some}

none_some : {n : ℕ} → (let o : Option ℕ = None in o) ≡ Some n → ⊥
none_some h = Prim.cc

some_is : {a b : ℕ} → Some a ≡ Some b → a ≡ b
some_is h = Prim.cc

map_all : (o : Option (List ℕ)) → o ≡ option_map (after_some 0) o
map_all None = refl
map_all (Some answers) = refl

-- the clock was not read

none_each : (o : Option (List ℕ)) → IfSome o (λ answers. (place reading : ℕ) → slice_get [] place ≡ Some reading → slice_get (after_some place answers) 0 ≡ Some reading)
none_each None = tt
none_each (Some answers) = λ place reading is. absurd (none_some is)

pub no_readings : (o : Option (List ℕ)) → ReadInTurn o o []
no_readings o = record { each = none_each o; rest = map_all o }

pub unread : (most : ℕ) (o : Option (List ℕ)) → ReadUpTo most o o
unread most o = ([], omega arith, no_readings o)

pub unread_by : (most : ℕ) (before after : Option (List ℕ)) → after ≡ before → ReadUpTo most before after
unread_by most before after is = subst (λ o. ReadUpTo most before o) (sym is) (unread most before)

-- it was read once more

-- the reading at a place is one of those before, or the last
at_end : (readings : List ℕ) (last place reading : ℕ) → slice_get (readings ++ last ∷ []) place ≡ Some reading → (slice_get readings place ≡ Some reading) ⊎ ((place ≡ length readings) × (reading ≡ last))
at_end [] last zero reading is = inr (refl, sym (some_is is))
at_end [] last (suc place) reading is = absurd (none_some is)
at_end (r ∷ readings) last zero reading is = inl is
at_end (r ∷ readings) last (suc place) reading is =
    elim (at_end readings last place reading is) [
      | inl before ↦ inl before
      | inr it ↦ inr (ap suc it.0, it.1)
    ]

each_more : (o : Option (List ℕ)) (readings : List ℕ) (last : ℕ) → IfSome o (λ answers. (place reading : ℕ) → slice_get readings place ≡ Some reading → slice_get (after_some place answers) 0 ≡ Some reading)
    → IfSome (option_map (after_some (length readings)) o) (λ answers. slice_get answers 0 ≡ Some last)
    → IfSome o (λ answers. (place reading : ℕ) → slice_get (readings ++ last ∷ []) place ≡ Some reading → slice_get (after_some place answers) 0 ≡ Some reading)
each_more None readings last each first = tt
each_more (Some answers) readings last each first = λ place reading is.
    elim (at_end readings last place reading is) [
      | inl before ↦ each place reading before
      | inr it ↦ subst (λ p. slice_get (after_some p answers) 0 ≡ Some reading) (sym it.0) (first ∙ ap (λ (n : ℕ). Some n) (sym it.1))
    ]

rest_more : (o : Option (List ℕ)) (n : ℕ) → option_map after_first (option_map (after_some n) o) ≡ option_map (after_some (suc n)) o
rest_more None n = refl
rest_more (Some answers) n = refl

one_more : (readings : List ℕ) (last : ℕ) → length (readings ++ last ∷ []) ≡ suc (length readings)
one_more [] last = refl
one_more (r ∷ readings) last = ap suc (one_more readings last)

pub read_more : (before now after : Option (List ℕ)) (readings : List ℕ) (last : ℕ) → ReadInTurn before now readings → IfSome now (λ answers. slice_get answers 0 ≡ Some last) → after ≡ option_map after_first now → ReadInTurn before after (readings ++ last ∷ [])
read_more before now after readings last were first rest = record {
  each = each_more before readings last were.each (subst (λ o. IfSome o (λ answers. slice_get answers 0 ≡ Some last)) were.rest first);
  rest = rest ∙ ap (option_map after_first) were.rest ∙ rest_more before (length readings) ∙ ap (λ (n : ℕ). option_map (after_some n) before) (sym (one_more readings last));
}

-- what is read at most once is read up to so often

once_more : (before after : Option (List ℕ)) (reading : ℕ) → ReadOnce before after reading → ReadUpTo 64 before after
once_more before after reading once = (reading ∷ [], omega arith, read_more before before after [] reading (no_readings before) once.first once.rest)

pub at_most_once : (before after : Option (List ℕ)) (reading : ℕ) → ReadAtMostOnce before after reading → ReadUpTo 64 before after
at_most_once before after reading (inl is) = unread_by 64 before after is
at_most_once before after reading (inr once) = once_more before after reading once

pub up_to : (few most : ℕ) (before after : Option (List ℕ)) → few ≤ most → ReadUpTo few before after → ReadUpTo most before after
up_to few most before after less it = (it.0, omega (arith, less, it.1), it.2)
