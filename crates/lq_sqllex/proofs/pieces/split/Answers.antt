use Rattle.std.proofs.Common.{◌≡◌, ◌∙◌, false, ◌-◌, List, ℕ, [], ◌∷◌, ◌++◌, ap, sym, take, drop, refl, arith, length-drop}
use Rattle.std.proofs.lemmas.Str.{IsCharBoundary-start}
use Rattle.lq_sqllex.specs.Pieces.{is_delimited, kept}
use Rattle.lq_sqllex.proofs.Boundary.{boundary_before, boundary_after}
use Rattle.lq_sqllex.proofs.PieceSteps.{delimiter_begins, going, going_begins, going_open, piece_on, piece_past}
use Rattle.lq_sqllex.proofs.Search.{cleared, no_front, not_begun, one_stands, rest_or_none}
use Rattle.lq_sqllex.proofs.pieces.split.Goals as goal
use Rattle.lq_sqllex.proofs.pieces.split.Goals.{then-spent-delimiter, else-spent-delimiter, else-clear-place-via-then-clear-place+else-is_delimited, else-clear-place-via-else-clear-place}

pub loop-place-init : goal.loop-place-init
loop-place-init c = record {
  whole = going_begins _ _ _ ∙ ap (λ (found : List (List ℕ)). going c.args.dialect c.args.delimiter.now found [] c.args.text.now) (sym c.new-found.ensures);
  order = omega arith;
  within = omega arith;
  boundary = IsCharBoundary-start _ c.utf8.text;
  clear = λ k _ none. absurd (omega arith);
}

pub range-requires-clause-end_boundary : goal.range-requires-clause-end_boundary
range-requires-clause-end_boundary c =
    boundary_before c.args.text.now c.args.delimiter.now c.loop-place.place c.utf8.delimiter (delimiter_begins c.args.dialect c.args.delimiter.now _ (sym c.is_delimited_at.ensures ∙ c.if-is_delimited_at.true)) c.requires c.loop-place.invariant.within

pub loop-place-preserved-in_ok-keep : goal.loop-place-preserved-in_ok-keep
loop-place-preserved-in_ok-keep c =
    let text = c.args.text.now in
    let there = sym c.is_delimited_at.ensures ∙ c.if-is_delimited_at.true in
    let after = boundary_after text c.args.delimiter.now c.loop-place.place c.utf8.text c.utf8.delimiter (delimiter_begins c.args.dialect c.args.delimiter.now _ there) c.requires c.loop-place.invariant.within in
    record {
      whole = piece_past c.args.dialect text c.args.delimiter.now c.loop-place.found c.keep.new.found (take (c.loop-place.place - c.loop-place.start) (drop c.loop-place.start text)) c.loop-place.place _ c.loop-place.invariant.whole there c.requires
          (c.in_ok-keep.ensures ∙ ap (λ (piece : List ℕ). c.loop-place.found ++ kept c.args.dialect (piece ∷ [])) c.range.ensures.value);
      order = omega arith;
      within = after.0;
      boundary = after;
      clear = λ k from below. c.loop-place.invariant.clear k (omega arith) below;
    }

pub loop-place-preserved-after-spent-delimiter : goal.loop-place-preserved-after-spent-delimiter
loop-place-preserved-after-spent-delimiter c =
    let text = c.args.text.now in
    let place = c.loop-place.place in
    let here = c.from.ensures ∙ ap (drop place) c.as_bytes-then-clear-place.ensures.value in
    record {
      whole = piece_on c.args.dialect text c.args.delimiter.now c.loop-place.found c.loop-place.start place 1 _ c.loop-place.invariant.whole c.loop-place.invariant.order
          (omega (arith, c.loop-place-test.true)) (omega arith) (sym c.is_delimited_at.ensures ∙ c.if-is_delimited_at.false)
          (one_stands c.args.dialect _ (drop place text) c.from.result.now here (sym c.is_delimited.ensures ∙ c.if-is_delimited.true));
      order = omega (arith, c.loop-place.invariant.order);
      within = omega (arith, c.loop-place-test.true);
      boundary = c.loop-place.invariant.boundary;
      clear = elim c.if-spent-delimiter.branch [
        | then-spent-delimiter w ↦ λ k from below.
            let rest = rest_or_none text place c.get.result _ c.unwrap_or-rest.result refl c.unwrap_or-rest.ensures c.get.ensures.cases in
            cleared c.args.delimiter.now text c.unwrap_or-rest.result.now place w.find.result rest w.find.ensures.cases k (omega arith) (omega (arith, below, w.clear-is, w.unwrap_or.ensures))
        | else-spent-delimiter w ↦ λ k from below. c.loop-place.invariant.clear k (omega arith) (omega (arith, below, w.clear-is))
      ];
    }

pub returns-in_default-clause-unclosed : goal.returns-in_default-clause-unclosed
returns-in_default-clause-unclosed c =
    let text = c.args.text.now in
    let place = c.loop-place.place in
    let other : is_delimited c.args.dialect c.args.delimiter.now (drop place text) ≡ false = elim c.else-clear-place.branch [
      | else-clear-place-via-then-clear-place+else-is_delimited w ↦
          no_front c.args.dialect _ c.args.delimiter.now (drop place text) c.as_bytes.result.now w.from.result.now c.as_bytes.ensures.value
          (w.from.ensures ∙ ap (drop place) w.as_bytes-then-clear-place.ensures.value) (sym w.is_delimited.ensures ∙ w.if-is_delimited.false)
      | else-clear-place-via-else-clear-place w ↦ not_begun c.args.dialect c.args.delimiter.now (drop place text) (c.loop-place.invariant.clear place (omega arith) (omega (arith, w.if-clear-place.false)))
    ] in
    λ _. c.loop-place.invariant.whole
    ∙ going_open c.args.dialect c.args.delimiter.now c.loop-place.found _ (drop place text) other (sym c.together_at.ensures.value ∙ c.in_default.is) (omega (arith, length-drop place text, c.loop-place-test.true))

pub loop-place-preserved : goal.loop-place-preserved
loop-place-preserved c =
    let text = c.args.text.now in
    let place = c.loop-place.place in
    let other : is_delimited c.args.dialect c.args.delimiter.now (drop place text) ≡ false = elim c.else-clear-place.branch [
      | else-clear-place-via-then-clear-place+else-is_delimited w ↦
          no_front c.args.dialect _ c.args.delimiter.now (drop place text) c.as_bytes.result.now w.from.result.now c.as_bytes.ensures.value
          (w.from.ensures ∙ ap (drop place) w.as_bytes-then-clear-place.ensures.value) (sym w.is_delimited.ensures ∙ w.if-is_delimited.false)
      | else-clear-place-via-else-clear-place w ↦ not_begun c.args.dialect c.args.delimiter.now (drop place text) (c.loop-place.invariant.clear place (omega arith) (omega (arith, w.if-clear-place.false)))
    ] in
    record {
      whole = piece_on c.args.dialect text c.args.delimiter.now c.loop-place.found c.loop-place.start place c.in-Some.count _ c.loop-place.invariant.whole c.loop-place.invariant.order
          c.in-Some.ensures.bound c.in-Some.ensures.some other (sym c.in-Some.ensures.value);
      order = omega (arith, c.loop-place.invariant.order);
      within = c.in-Some.ensures.bound;
      boundary = c.loop-place.invariant.boundary;
      clear = λ k from below. c.loop-place.invariant.clear k (omega arith) below;
    }
