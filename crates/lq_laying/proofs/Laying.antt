-- Calls that are laid down one after another, the last first, are those of the turn.
use Rattle.std.proofs.Common.{ap, arith, subst, sym, ◌∙◌}
use Rattle.std.proofs.lemmas.List.{append-nil, append_assoc, length-append, reverse-append}
use Rattle.std.specs.Prelude.{Bool, List, [], false, if◌then◌else◌, length, reverse, suc, true, ℕ, ◌+◌, ◌++◌, ◌<◌, ◌∷◌, ◌≡◌}
use Rattle.lq_base.specs.declared.dialect.Dialect.{Dialect}
use Rattle.lq_model.specs.declared.statement.Statement.{Statement}
use Rattle.lq_turns.specs.Turn.{apart, mark, statement_calls, within}
use Rattle.lq_turns.specs.declared.call.Call.{Call}
use Rattle.lq_turns.specs.declared.call.Call.TheVariants.{Begin, Commit, Execute}
use Rattle.lq_turns.specs.declared.deed.Deed.TheVariants.{Users}
use Rattle.lq_turns.specs.declared.turn.Turn.{Turn}
use Rattle.lq_laying.specs.Laying.{Lays, LaysLast, LaysOne, begun_calls, marked_calls, turn_of}
use Rattle.lq_laying.specs.declared.marking.Marking.{Marking}

pub pushed : (call : Call) (before after : List Call) → after ≡ before ++ call ∷ [] → Lays (call ∷ []) before after
pushed call before after is = ap reverse is ∙ reverse-append before (call ∷ [])

pub then_lays : (first second : List Call) (a b c : List Call) → Lays second a b → Lays first b c → Lays (first ++ second) a c
then_lays first second a b c before after = after ∙ ap (λ cs. first ++ cs) before ∙ sym (append_assoc first second (reverse a))

module _ (d : Dialect) (who : List ℕ) (turn : Turn) where
  -- those of the n-th statement
  abbrev pub one : ℕ → Statement → List Call
  one n s = if turn.in_transaction then within d who turn n s else apart who turn n s

  pub last_calls : (k n : ℕ) (front : List Statement) (last : Statement) → n ≡ k + length front
      → statement_calls d who turn k (front ++ last ∷ []) ≡ statement_calls d who turn k front ++ one n last
  last_calls k n [] last is = append-nil (one k last) ∙ ap (λ i. one i last) (sym plain) where
    plain : n ≡ k
    plain = omega (arith, is)
  last_calls k n (s ∷ front) last is =
      ap (λ cs. one k s ++ cs) (last_calls (suc k) n front last next) ∙ sym (append_assoc (one k s) (statement_calls d who turn (suc k) front) (one n last))
    where
      next : n ≡ suc k + length front
      next = omega (arith, is)

-- all that is made for the last statement
pub laid_one : (m : Marking) (before rest : List Statement) (last : Statement) (number : ℕ) (calls now : List Call) → before ≡ rest ++ last ∷ [] → number ≡ length before
    → Lays (one m.dialect m.who.now (turn_of m) number last) calls now → LaysOne m before calls rest now
laid_one m before rest last number calls now from count lays = record { same = same; fewer = fewer } where
  long : length before ≡ length rest + 1
  long = ap length from ∙ length-append rest (last ∷ [])

  nth : number ≡ 1 + length rest
  nth = omega (arith, count, long)

  fewer : length rest < length before
  fewer = omega (arith, long)

  own : List Call
  own = one m.dialect m.who.now (turn_of m) number last

  same : marked_calls m rest ++ reverse now ≡ marked_calls m before ++ reverse calls
  same = ap (λ cs. marked_calls m rest ++ cs) lays
      ∙ sym (append_assoc (marked_calls m rest) own (reverse calls))
      ∙ ap (λ cs. cs ++ reverse calls) (sym (last_calls m.dialect m.who.now (turn_of m) 1 number rest last nth))
      ∙ ap (λ ss. marked_calls m ss ++ reverse calls) (sym from)

pub within_marked : (m : Marking) (before rest : List Statement) (number : ℕ) (calls mid now : List Call) (commits : Bool) → m.in_transaction ≡ true → number ≡ length before
    → LaysLast m.dialect before calls rest mid commits → commits ≡ true → Lays (mark m.who.now (turn_of m) number ∷ []) mid now → LaysOne m before calls rest now
within_marked m before rest number calls mid now commits whole count l is marks =
    laid_one m before rest l.last number calls now l.from count
    (subst (λ b. Lays (if b then within m.dialect m.who.now (turn_of m) number l.last else apart m.who.now (turn_of m) number l.last) calls now) (sym whole)
    (subst (λ b. Lays (if b then mark m.who.now (turn_of m) number ∷ Execute (Users l.last) ∷ [] else Execute (Users l.last) ∷ []) calls now) (sym is ∙ l.told)
    (then_lays (mark m.who.now (turn_of m) number ∷ []) (Execute (Users l.last) ∷ []) calls mid now l.lays marks)))

pub within_plain : (m : Marking) (before rest : List Statement) (number : ℕ) (calls now : List Call) (commits : Bool) → m.in_transaction ≡ true → number ≡ length before
    → LaysLast m.dialect before calls rest now commits → commits ≡ false → LaysOne m before calls rest now
within_plain m before rest number calls now commits whole count l is =
    laid_one m before rest l.last number calls now l.from count
    (subst (λ b. Lays (if b then within m.dialect m.who.now (turn_of m) number l.last else apart m.who.now (turn_of m) number l.last) calls now) (sym whole)
    (subst (λ b. Lays (if b then mark m.who.now (turn_of m) number ∷ Execute (Users l.last) ∷ [] else Execute (Users l.last) ∷ []) calls now) (sym is ∙ l.told)
    l.lays))

pub apart_laid : (m : Marking) (before rest : List Statement) (number : ℕ) (calls a b c now : List Call) (commits : Bool) → m.in_transaction ≡ false → number ≡ length before
    → Lays (Commit ∷ []) calls a → LaysLast m.dialect before a rest b commits → Lays (mark m.who.now (turn_of m) number ∷ []) b c → Lays (Begin ∷ []) c now → LaysOne m before calls rest now
apart_laid m before rest number calls a b c now commits apart_is count ends l marks begins =
    laid_one m before rest l.last number calls now l.from count
    (subst (λ b. Lays (if b then within m.dialect m.who.now (turn_of m) number l.last else apart m.who.now (turn_of m) number l.last) calls now) (sym apart_is)
    (then_lays (Begin ∷ []) (mark m.who.now (turn_of m) number ∷ Execute (Users l.last) ∷ Commit ∷ []) calls c now
    (then_lays (mark m.who.now (turn_of m) number ∷ []) (Execute (Users l.last) ∷ Commit ∷ []) calls b c
    (then_lays (Execute (Users l.last) ∷ []) (Commit ∷ []) calls a b ends l.lays) marks) begins))

-- what is laid first is made last
pub begun_whole : (m : Marking) (statements : List Statement) (calls mid now : List Call) → m.in_transaction ≡ true
    → Lays (marked_calls m statements) calls mid → Lays (Begin ∷ []) mid now → Lays (begun_calls m statements) calls now
begun_whole m statements calls mid now whole before after =
    subst (λ b. Lays (if b then Begin ∷ marked_calls m statements else marked_calls m statements ++ Begin ∷ []) calls now) (sym whole)
    (then_lays (Begin ∷ []) (marked_calls m statements) calls mid now before after)

pub begun_apart : (m : Marking) (statements : List Statement) (calls mid now : List Call) → m.in_transaction ≡ false
    → Lays (Begin ∷ []) calls mid → Lays (marked_calls m statements) mid now → Lays (begun_calls m statements) calls now
begun_apart m statements calls mid now apart_is before after =
    subst (λ b. Lays (if b then Begin ∷ marked_calls m statements else marked_calls m statements ++ Begin ∷ []) calls now) (sym apart_is)
    (then_lays (marked_calls m statements) (Begin ∷ []) calls mid now before after)
