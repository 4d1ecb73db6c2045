-- The texts of a body read back, and their lengths add up.
use Rattle.std.proofs.Common.{◌≡◌, ◌==◌, ◌+◌, ◌-◌, ◌<◌, ◌≤◌, ◌^◌, ℕ, zero, suc, Bool, true, false, IsTrue, List, [], ◌∷◌, ◌++◌, length, take, drop, map, Option, None, Some, is_some, refl, sym, ◌∙◌, ap, subst, arith, length-append, length-take, length-drop, if◌then◌else◌}
use Rattle.std.specs.Option.{option_map}
use Rattle.std.specs.Str.{is_utf8}
use Rattle.std.proofs.lemmas.List.{append_assoc, append-nil, map-append, take_at, take_all, drop_at}
use Rattle.lq_frames.specs.declared.entry.Body.{Body}
use Rattle.lq_frames.specs.declared.entry.Body.TheVariants.{State, Texts}
use Rattle.lq_frames.specs.Body.{number, front_number, framed_texts, body_of, entry_of, size_of, with_text, texts_from, if_any, as_body, is_body, AreTexts, IsRight, texts_by, IsEncoded, state_in}
use Rattle.lq_frames.proofs.Numbers.{number-length, front_number-number}

pub passes_text : (over bytes : List ℕ) → texts_from (length over) (over ++ bytes) ≡ texts_from 0 bytes
passes_text [] bytes = refl
passes_text (byte ∷ over) bytes = passes_text over bytes

-- behind a length its text is read, and then what follows
pub texts_step : (front rest : List ℕ) → length front ≡ 4
    → texts_from 0 (front ++ rest) ≡ with_text (take (front_number (front ++ rest)) rest) (texts_from (front_number (front ++ rest)) rest)
texts_step [] rest size = absurd (omega (arith, size))
texts_step (a ∷ []) rest size = absurd (omega (arith, size))
texts_step (a ∷ b ∷ []) rest size = absurd (omega (arith, size))
texts_step (a ∷ b ∷ c ∷ []) rest size = absurd (omega (arith, size))
texts_step (a ∷ b ∷ c ∷ d ∷ []) rest size =
    let n = front_number (a ∷ b ∷ c ∷ d ∷ rest) in
    let over : 3 + n ≡ suc (suc (suc n)) = omega arith in
    ap (λ (k : ℕ). with_text (take n rest) (texts_from k (b ∷ c ∷ d ∷ rest))) over
texts_step (a ∷ b ∷ c ∷ d ∷ e ∷ front) rest size = absurd (omega (arith, size))

-- what is passed over is there
pub texts_past : (n : ℕ) (bytes : List ℕ) → length bytes < n → texts_from n bytes ≡ None
texts_past zero bytes few = absurd (omega (arith, few))
texts_past (suc n) [] few = refl
texts_past (suc n) (byte ∷ bytes) few = texts_past n bytes (omega (arith, few))

pub with_text-none : (b : Bool) (text : List ℕ) → (if b then option_map (λ more. text ∷ more) None else None) ≡ None
with_text-none true text = refl
with_text-none false text = refl

-- the bytes are too few for a length
pub texts_short : (bytes : List ℕ) → 0 < length bytes → length bytes < 4 → texts_from 0 bytes ≡ None
texts_short [] some few = absurd (omega (arith, some))
texts_short (a ∷ bytes) some few =
    let n = front_number (a ∷ bytes) in
    ap (with_text (take n (drop 3 bytes))) (texts_past (3 + n) bytes (omega (arith, few)))
    ∙ with_text-none (is_utf8 (take n (drop 3 bytes))) (take n (drop 3 bytes))

pub with_text-utf8 : (text : List ℕ) (texts : Option (List (List ℕ))) → is_utf8 text ≡ true → with_text text texts ≡ option_map (λ more. text ∷ more) texts
with_text-utf8 text texts is = ap (λ (b : Bool). if b then option_map (λ more. text ∷ more) texts else None) is

pub framed_texts-step : (text rest : List ℕ) → is_utf8 text ≡ true → length text < 2 ^ 32
    → texts_from 0 (number (length text) ++ text ++ rest) ≡ option_map (λ more. text ∷ more) (texts_from 0 rest)
framed_texts-step text rest utf8 fits =
    let n : front_number (number (length text) ++ (text ++ rest)) ≡ length text = front_number-number (length text) (text ++ rest) fits in
    ap (λ (l : List ℕ). texts_from 0 l) (append_assoc (number (length text)) text rest)
    ∙ texts_step (number (length text)) (text ++ rest) (number-length (length text))
    ∙ ap (λ (k : ℕ). with_text (take k (text ++ rest)) (texts_from k (text ++ rest))) n
    ∙ ap (λ (l : List ℕ). with_text l (texts_from (length text) (text ++ rest))) (take_at text rest (length text) refl)
    ∙ ap (with_text text) (passes_text text rest)
    ∙ with_text-utf8 text (texts_from 0 rest) utf8

pub framed_texts-length : (text : List ℕ) (texts : List (List ℕ)) → length (framed_texts (text ∷ texts)) ≡ 4 + length text + length (framed_texts texts)
framed_texts-length text texts = omega (arith, length-append (number (length text) ++ text) (framed_texts texts), length-append (number (length text)) text, number-length (length text))

pub texts_read_back : (texts : List (List ℕ)) → AreTexts texts → length (framed_texts texts) < 2 ^ 32 → texts_from 0 (framed_texts texts) ≡ Some texts
texts_read_back [] are fits = refl
texts_read_back (text ∷ texts) are fits =
    let size = framed_texts-length text texts in
    framed_texts-step text (framed_texts texts) are.0 (omega (arith, size, fits))
    ∙ ap (option_map (λ more. text ∷ more)) (texts_read_back texts are.1 (omega (arith, size, fits)))

pub body_reads_back : (what : Body) → IsRight what → length (body_of what) < 2 ^ 32 → as_body (body_of what) ≡ Some what
unfolding as_body
body_reads_back (Texts []) right fits = absurd (omega (arith, right.1))
body_reads_back (Texts (text ∷ texts)) right fits = ap if_any (texts_read_back (text ∷ texts) right.0 (omega (arith, fits)))
body_reads_back (State bytes) right fits = refl

-- what is read fills the bytes
pub some_is : {A : Type 0} (x y : A) → Some x ≡ Some y → x ≡ y
some_is x y is = cc

added : (text : List ℕ) (b : Bool) (more : Option (List (List ℕ))) (texts : List (List ℕ))
    → (if b then option_map (λ more. text ∷ more) more else None) ≡ Some texts → (rest : List (List ℕ)) × (more ≡ Some rest) × (texts ≡ text ∷ rest)
added text true (Some more) texts is = (more, refl, sym (some_is (text ∷ more) texts is))
added text true None texts is = absurd (cc is)
added text false more texts is = absurd (cc is)

pub texts_fill : (n : ℕ) (bytes : List ℕ) (texts : List (List ℕ)) → texts_from n bytes ≡ Some texts → length bytes ≡ n + length (framed_texts texts)
texts_fill zero [] texts is = omega (arith, ap (λ (ts : List (List ℕ)). length (framed_texts ts)) (some_is [] texts is))
texts_fill (suc n) [] texts is = absurd (cc is)
texts_fill (suc n) (byte ∷ bytes) texts is = omega (arith, texts_fill n bytes texts is)
texts_fill zero (byte ∷ bytes) texts is =
    let n = front_number (byte ∷ bytes) in
    let text = take n (drop 3 bytes) in
    let parts = added text (is_utf8 text) (texts_from (3 + n) bytes) texts is in
    let rest : length bytes ≡ 3 + n + length (framed_texts parts.0) = texts_fill (3 + n) bytes parts.0 parts.1 in
    let size : length text ≡ n = omega (arith, rest, length-take n (drop 3 bytes), length-drop 3 bytes) in
    omega (arith, rest, size, framed_texts-length text parts.0, ap (λ (ts : List (List ℕ)). length (framed_texts ts)) parts.2)

pub entry_of-length : (what : Body) → size_of what ≡ 5 + length (body_of what)
entry_of-length what = omega (arith, length-append (number (length (body_of what)) ++ body_of what) (0 ∷ []), length-append (number (length (body_of what))) (body_of what), number-length (length (body_of what)))

any_is : (read : Option (List (List ℕ))) → is_some (if_any read) ≡ true → (texts : List (List ℕ)) × (read ≡ Some texts) × (if_any read ≡ Some (Texts texts))
any_is None is = absurd (cc is)
any_is (Some []) is = absurd (cc is)
any_is (Some (text ∷ texts)) is = (text ∷ texts, refl, refl)

-- a body of the right form says something, which fills it
pub body_fills : (bytes : List ℕ) → is_body bytes ≡ true → (what : Body) × (as_body bytes ≡ Some what) × (length bytes ≡ length (body_of what))
unfolding as_body
body_fills [] is = absurd (cc is)
body_fills (tag ∷ bytes) is = by_tag (tag == 84) (tag == 83) is
  where
    by_tag : (is_texts is_state : Bool) → is_some (if is_texts then if_any (texts_from 0 bytes) else (if is_state then Some (State bytes) else None)) ≡ true
        → (what : Body) × ((if is_texts then if_any (texts_from 0 bytes) else (if is_state then Some (State bytes) else None)) ≡ Some what) × (length (tag ∷ bytes) ≡ length (body_of what))
    by_tag true is_state is =
        let parts = any_is (texts_from 0 bytes) is in
        (Texts parts.0, parts.2, omega (arith, texts_fill 0 bytes parts.0 parts.1))
    by_tag false true is = (State bytes, refl, refl)
    by_tag false false is = absurd (cc is)

-- the lengths of the texts give them back
pub texts_by-framed : (texts : List (List ℕ)) (rest : List ℕ) → texts_by (map (λ text. length text) texts) (framed_texts texts ++ rest) ≡ texts
texts_by-framed [] rest = refl
texts_by-framed (text ∷ texts) rest =
    let front = number (length text) in
    let more = framed_texts texts ++ rest in
    let whole : framed_texts (text ∷ texts) ++ rest ≡ front ++ (text ++ more) =
    append_assoc (front ++ text) (framed_texts texts) rest ∙ append_assoc front text more in
    let behind : drop 4 (framed_texts (text ∷ texts) ++ rest) ≡ text ++ more = ap (drop 4) whole ∙ drop_at front (text ++ more) 4 (number-length (length text)) in
    ap (λ (l : List ℕ). take (length text) l ∷ texts_by (map (λ text. length text) texts) (drop (length text) l)) behind
    ∙ ap (λ (l : List ℕ). l ∷ texts_by (map (λ text. length text) texts) (drop (length text) (text ++ more))) (take_at text more (length text) refl)
    ∙ ap (λ (l : List ℕ). text ∷ texts_by (map (λ text. length text) texts) l) (drop_at text more (length text) refl)
    ∙ ap (λ (ts : List (List ℕ)). text ∷ ts) (texts_by-framed texts rest)

behind_tag : (texts : List (List ℕ)) → drop 5 (entry_of (Texts texts)) ≡ framed_texts texts ++ 0 ∷ []
unfolding number
behind_tag texts = refl

pub texts_by-entry : (texts : List (List ℕ)) (lens bytes : List ℕ) → lens ≡ map (λ text. length text) texts → bytes ≡ entry_of (Texts texts) → texts_by lens (drop 5 bytes) ≡ texts
texts_by-entry texts lens bytes lens_are is =
    ap (λ (l : List ℕ). texts_by lens (drop 5 l)) is
    ∙ ap (texts_by lens) (behind_tag texts)
    ∙ ap (λ (ns : List ℕ). texts_by ns (framed_texts texts ++ 0 ∷ [])) lens_are
    ∙ texts_by-framed texts (0 ∷ [])

framed_texts-last : (texts : List (List ℕ)) (text : List ℕ) → framed_texts (texts ++ text ∷ []) ≡ framed_texts texts ++ (number (length text) ++ text)
framed_texts-last [] text = append-nil (number (length text) ++ text)
framed_texts-last (first ∷ texts) text =
    let front = number (length first) ++ first in
    ap (λ (l : List ℕ). front ++ l) (framed_texts-last texts text) ∙ sym (append_assoc front (framed_texts texts) (number (length text) ++ text))

regroup : (head body n text gate : List ℕ) → (((head ++ body) ++ n) ++ text) ++ gate ≡ head ++ ((body ++ (n ++ text)) ++ gate)
regroup head body n text gate = simp append_assoc

-- an entry with one more text: the gate is taken off, the text put on, the gate closed again, and the length written anew
pub entry_of-last : (texts : List (List ℕ)) (text old bytes : List ℕ) → old ≡ entry_of (Texts texts)
    → bytes ≡ take (length old - 1) old ++ number (length text) ++ text ++ 0 ∷ []
    → number (length bytes - 5) ++ drop 4 bytes ≡ entry_of (Texts (texts ++ text ∷ []))
entry_of-last texts text old bytes is bytes_is =
    let head = number (length (body_of (Texts texts))) in
    let body = body_of (Texts (texts ++ text ∷ [])) in
    let start_is : take (length old - 1) old ≡ head ++ body_of (Texts texts) =
    ap (take (length old - 1)) is ∙ take_at (head ++ body_of (Texts texts)) (0 ∷ []) (length old - 1) (omega (arith, ap length is, length-append (head ++ body_of (Texts texts)) (0 ∷ []))) in
    let body_is : body ≡ body_of (Texts texts) ++ (number (length text) ++ text) = ap (λ (l : List ℕ). 84 ∷ l) (framed_texts-last texts text) in
    let whole : bytes ≡ head ++ (body ++ 0 ∷ []) =
    bytes_is ∙ ap (λ (l : List ℕ). l ++ number (length text) ++ text ++ 0 ∷ []) start_is
    ∙ regroup head (body_of (Texts texts)) (number (length text)) text (0 ∷ []) ∙ ap (λ (l : List ℕ). head ++ (l ++ 0 ∷ [])) (sym body_is) in
    let size : length bytes - 5 ≡ length body =
    omega (arith, ap length whole, length-append head (body ++ 0 ∷ []), length-append body (0 ∷ []), number-length (length (body_of (Texts texts)))) in
    let rest : drop 4 bytes ≡ body ++ 0 ∷ [] = ap (drop 4) whole ∙ drop_at head (body ++ 0 ∷ []) 4 (number-length (length (body_of (Texts texts)))) in
    ap (λ (n : ℕ). number n ++ drop 4 bytes) size ∙ ap (λ (l : List ℕ). number (length body) ++ l) rest ∙ sym (append_assoc (number (length body)) body (0 ∷ []))

pub are_texts-last : (texts : List (List ℕ)) (text : List ℕ) → AreTexts texts → IsTrue (is_utf8 text) → AreTexts (texts ++ text ∷ [])
are_texts-last [] text are is = (is, tt)
are_texts-last (first ∷ texts) text are is = (are.0, are_texts-last texts text are.1 is)

-- what an encoded entry has to keep, from its bytes and lengths
pub is_encoded : (texts : List (List ℕ)) (lens bytes : List ℕ) → lens ≡ map (λ text. length text) texts → bytes ≡ entry_of (Texts texts) → AreTexts texts → 0 < length texts
    → IsEncoded (texts_by lens (drop 5 bytes)) lens bytes
is_encoded texts lens bytes lens_are is are some =
    subst (λ ts. IsEncoded ts lens bytes) (sym (texts_by-entry texts lens bytes lens_are is)) record { is = is; lens_are = lens_are; are_texts = are; some = some }

group_first : (size tag n text gate : List ℕ) → (((size ++ tag) ++ n) ++ text) ++ gate ≡ (size ++ (tag ++ (n ++ text))) ++ gate
group_first size tag n text gate = simp append_assoc

pub encoded_first : (text bytes : List ℕ) → bytes ≡ number (5 + length text) ++ 84 ∷ [] ++ number (length text) ++ text ++ 0 ∷ [] → bytes ≡ entry_of (Texts (text ∷ []))
encoded_first text bytes is =
    let framed : framed_texts (text ∷ []) ≡ number (length text) ++ text = append-nil (number (length text) ++ text) in
    let size : length (body_of (Texts (text ∷ []))) ≡ 5 + length text = omega (arith, framed_texts-length text []) in
    is ∙ group_first (number (5 + length text)) (84 ∷ []) (number (length text)) text (0 ∷ [])
    ∙ ap (λ (l : List ℕ). (number (5 + length text) ++ 84 ∷ l) ++ 0 ∷ []) (sym framed)
    ∙ ap (λ (n : ℕ). (number n ++ body_of (Texts (text ∷ []))) ++ 0 ∷ []) (sym size)

-- what an encoded entry keeps when a text is added
pub pushed : (texts : List (List ℕ)) (text lens bytes more_lens more_bytes : List ℕ) → IsEncoded texts lens bytes → more_lens ≡ lens ++ length text ∷ [] → more_bytes ≡ entry_of (Texts (texts ++ text ∷ [])) → IsTrue (is_utf8 text)
    → IsEncoded (texts_by more_lens (drop 5 more_bytes)) more_lens more_bytes × (texts_by more_lens (drop 5 more_bytes) ≡ texts ++ text ∷ [])
pushed texts text lens bytes more_lens more_bytes encoded lens_is bytes_is utf8 =
    let lens_are : more_lens ≡ map (λ text. length text) (texts ++ text ∷ []) =
    lens_is ∙ ap (λ (ns : List ℕ). ns ++ length text ∷ []) encoded.lens_are ∙ sym (map-append (λ text. length text) texts (text ∷ [])) in (
      is_encoded (texts ++ text ∷ []) more_lens more_bytes lens_are bytes_is (are_texts-last texts text encoded.are_texts utf8) (omega (arith, length-append texts (text ∷ []))),
      texts_by-entry (texts ++ text ∷ []) more_lens more_bytes lens_are bytes_is,
    )

-- bytes written over the first ones
pub front_written : (given front items : List ℕ) (len : ℕ) → given ≡ front → length front ≤ length items → len ≡ length items → take len (given ++ drop (length given) items) ≡ front ++ drop (length front) items
front_written given front items len is fits len_is =
    ap (λ (l : List ℕ). take len (l ++ drop (length l) items)) is
    ∙ take_all len (front ++ drop (length front) items) (omega (arith, length-append front (drop (length front) items), length-drop (length front) items, fits, len_is))

-- the state in the bytes of its entry
pub state_in-entry : (state bytes : List ℕ) → bytes ≡ entry_of (State state) → state_in bytes ≡ state
state_in-entry state bytes is =
    let front = number (length (body_of (State state))) ++ 83 ∷ [] in
    let whole : bytes ≡ front ++ (state ++ 0 ∷ []) = is ∙ group_state (number (length (body_of (State state)))) (83 ∷ []) state (0 ∷ []) in
    let front_size : length front ≡ 5 = omega (arith, length-append (number (length (body_of (State state)))) (83 ∷ []), number-length (length (body_of (State state)))) in
    let size : length bytes - 6 ≡ length state = omega (arith, ap length whole, length-append front (state ++ 0 ∷ []), length-append state (0 ∷ []), front_size) in
    ap (λ (l : List ℕ). take (length bytes - 6) (drop 5 l)) whole
    ∙ ap (take (length bytes - 6)) (drop_at front (state ++ 0 ∷ []) 5 front_size)
    ∙ take_at state (0 ∷ []) (length bytes - 6) (sym size)
  where
    group_state : (size tag state gate : List ℕ) → (size ++ (tag ++ state)) ++ gate ≡ (size ++ tag) ++ (state ++ gate)
    group_state size tag state gate = simp append_assoc

pub encoded_state : (state bytes : List ℕ) → bytes ≡ number (1 + length state) ++ 83 ∷ [] ++ state ++ 0 ∷ [] → bytes ≡ entry_of (State state)
encoded_state state bytes is =
    let size : 1 + length state ≡ length (body_of (State state)) = omega arith in
    is ∙ group_state (number (1 + length state)) (83 ∷ []) state (0 ∷ []) ∙ ap (λ (n : ℕ). (number n ++ 83 ∷ state) ++ 0 ∷ []) size
  where
    group_state : (size tag state gate : List ℕ) → ((size ++ tag) ++ state) ++ gate ≡ (size ++ (tag ++ state)) ++ gate
    group_state size tag state gate = simp append_assoc

-- what an encoded state has to keep
pub is_state_encoded : (state bytes : List ℕ) → bytes ≡ entry_of (State state) → bytes ≡ entry_of (State (state_in bytes))
is_state_encoded state bytes is = is ∙ ap (λ (l : List ℕ). entry_of (State l)) (sym (state_in-entry state bytes is))
