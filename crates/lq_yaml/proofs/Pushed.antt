-- One token more in front of what is still to be read.
use Rattle.std.proofs.Common.{◌≡◌, ℕ, ◌+◌, ◌*◌, ◌-◌, ◌<◌, ◌≤◌, ◌==◌, true, false, List, [], ◌∷◌, ◌++◌, Option, Some, None, option_map, refl, sym, ap, ◌∙◌, append_assoc, encode_utf8_all, length, take, drop, get_or, arith, suc}
use Rattle.std.proofs.lemmas.List.{length-append}
use Rattle.std.proofs.Math.Seq.{take-length}
use Rattle.lq_yaml.specs.declared.token.Head.TheVariants.{Dash, Key}
use Rattle.lq_yaml.specs.declared.token.Token.{Token}
use Rattle.lq_yaml.specs.declared.token.Token.TheVariants.{Begin}
use Rattle.lq_yaml.specs.Line.{without_blanks, key, behind_key, value_tokens, entry_tokens, is_dash, tokens_at}
use Rattle.lq_yaml.specs.Laws.{shallow, enough}
use Rattle.lq_yaml.proofs.Rising.{entry_stays, stays_whole}

pub pushed : (before : List Token) (t : Token) (o : Option (List Token)) → option_map (λ ts. before ++ ts) (option_map (λ ts. t ∷ ts) o) ≡ option_map (λ ts. (before ++ t ∷ []) ++ ts) o
pushed before t None = refl
pushed before t (Some ts) = ap (λ (l : List Token). Some l) (sym (append_assoc before (t ∷ []) ts))

pub entry_none : (column : ℕ) (cs : List ℕ) → key cs ≡ None → value_tokens (2 * column + 1) cs ≡ entry_tokens column cs
entry_none column cs is = rw is refl

pub entry_some : (column : ℕ) (cs k rest more name : List ℕ) (before after : List Token) → key cs ≡ Some (k, rest) → name ≡ encode_utf8_all k → more ≡ without_blanks rest
    → after ≡ before ++ Begin (2 * column + 1) (Key name) ∷ []
    → option_map (λ ts. after ++ ts) (behind_key (2 * column + 2) more) ≡ option_map (λ ts. before ++ ts) (entry_tokens column cs)
entry_some column cs k rest more name before after is named spaced so =
    rw (is, spaced, so, named) (sym (pushed before (Begin (2 * column + 1) (Key (encode_utf8_all k))) (behind_key (2 * column + 2) (without_blanks rest))))

-- ---- a dash

dash_is : (column c : ℕ) (more : List ℕ) → (c == 32) ≡ false → is_dash c more ≡ true → tokens_at column (c ∷ more) ≡ option_map (λ ts. Begin (2 * column + 2) Dash ∷ ts) (tokens_at (column + 1) more)
dash_is column c more other is = rw (other, is) refl

-- what stands before, and of what follows as many dashes as there is room for
abbrev pub goes_on : List Token → Option (List Token) → Option (List Token)
goes_on before o = option_map (λ ts. before ++ shallow (enough - length before) ts) o

-- there is room for the dash
kept : (n m q : ℕ) (before : List Token) (o : Option (List Token)) → n ≡ suc m
    → option_map (λ ts. before ++ shallow n ts) (option_map (λ ts. Begin q Dash ∷ ts) o) ≡ option_map (λ ts. (before ++ Begin q Dash ∷ []) ++ shallow m ts) o
kept n m q before None is = refl
kept n m q before (Some ts) is =
    ap (λ (k : ℕ). Some (before ++ shallow k (Begin q Dash ∷ ts))) is ∙ ap (λ (l : List Token). Some l) (sym (append_assoc before (Begin q Dash ∷ []) (shallow m ts)))

-- and none
passed : (n q : ℕ) (before : List Token) (o : Option (List Token)) → n ≡ 0
    → option_map (λ ts. before ++ shallow n ts) (option_map (λ ts. Begin q Dash ∷ ts) o) ≡ option_map (λ ts. before ++ shallow n ts) o
passed n q before None is = refl
passed n q before (Some ts) is =
    ap (λ (k : ℕ). Some (before ++ shallow k (Begin q Dash ∷ ts))) is ∙ ap (λ (k : ℕ). Some (before ++ shallow k ts)) (sym is)

pub dash_kept : (column : ℕ) (rest : List ℕ) (c : ℕ) (more : List ℕ) (before after : List Token) (all : Option (List Token))
    → all ≡ goes_on before (tokens_at column rest) → rest ≡ c ∷ more → (c == 32) ≡ false → is_dash c more ≡ true → length before ≤ 64
    → after ≡ before ++ Begin (2 * column + 2) Dash ∷ []
    → all ≡ goes_on after (tokens_at (column + 1) more)
dash_kept column rest c more before after all so is other dash le end =
    let longer : length after ≡ length before + 1 = ap length end ∙ length-append before (Begin (2 * column + 2) Dash ∷ []) in
    so ∙ ap (λ (l : List ℕ). goes_on before (tokens_at column l)) is
    ∙ ap (λ (o : Option (List Token)). goes_on before o) (dash_is column c more other dash)
    ∙ kept (enough - length before) (enough - length after) (2 * column + 2) before (tokens_at (column + 1) more) (omega (arith, longer, le))
    ∙ ap (λ (l : List Token). option_map (λ ts. l ++ shallow (enough - length after) ts) (tokens_at (column + 1) more)) (sym end)

pub dash_passed : (column : ℕ) (rest : List ℕ) (c : ℕ) (more : List ℕ) (before : List Token) (all : Option (List Token))
    → all ≡ goes_on before (tokens_at column rest) → rest ≡ c ∷ more → (c == 32) ≡ false → is_dash c more ≡ true → 64 < length before
    → all ≡ goes_on before (tokens_at (column + 1) more)
dash_passed column rest c more before all so is other dash gt =
    so ∙ ap (λ (l : List ℕ). goes_on before (tokens_at column l)) is
    ∙ ap (λ (o : Option (List Token)). goes_on before o) (dash_is column c more other dash)
    ∙ passed (enough - length before) (2 * column + 2) before (tokens_at (column + 1) more) (omega (arith, gt))

-- what is no dash is kept whole
pub entry_kept : (column : ℕ) (rest : List ℕ) (c : ℕ) (more : List ℕ) (before : List Token) (all : Option (List Token))
    → all ≡ goes_on before (tokens_at column rest) → rest ≡ c ∷ more → (c == 32) ≡ false → is_dash c more ≡ false
    → option_map (λ ts. before ++ ts) (entry_tokens column rest) ≡ all
entry_kept column rest c more before all so is other no_dash =
    let entry : tokens_at column (c ∷ more) ≡ entry_tokens column (c ∷ more) = rw (other, no_dash) refl in
    ap (λ (l : List ℕ). option_map (λ ts. before ++ ts) (entry_tokens column l)) is
    ∙ sym (stays_whole (enough - length before) before (entry_tokens column (c ∷ more)) (entry_stays column (c ∷ more) (key (c ∷ more))))
    ∙ ap (λ (o : Option (List Token)). goes_on before o) (sym entry)
    ∙ ap (λ (l : List ℕ). goes_on before (tokens_at column l)) (sym is)
    ∙ sym so

-- a slice by its first and the others
pub first_and : (xs : List ℕ) (c : ℕ) → 1 ≤ length xs → c ≡ get_or xs 0 c → xs ≡ c ∷ take (length xs - 1) (drop 1 xs)
first_and [] c le is = absurd (omega arith)
first_and (x ∷ xs) c le is = let short : suc (length xs) - 1 ≡ length xs = omega arith in
    ap (λ (y : ℕ). y ∷ xs) (sym is) ∙ ap (λ (l : List ℕ). c ∷ l) (sym (ap (λ (k : ℕ). take k xs) short ∙ take-length xs))
