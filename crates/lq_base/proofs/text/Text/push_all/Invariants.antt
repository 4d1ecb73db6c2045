use Rattle.std.proofs.Common.{◌≡◌, ◌++◌, take, length, string_bytes}
use Rattle.std.specs.List.{flat_map}
use Rattle.lq_base.proofs.text.Text.push_all.Given as goal

abbrev pub invariant-loop-part : goal.invariant-loop-part
invariant-loop-part l =
    (string_bytes l.self-inside.text ≡ l.fn.self ++ flat_map (λ part. part.now) (take l.part-index l.parts))
    × (l.start ≡ length l.fn.self)
