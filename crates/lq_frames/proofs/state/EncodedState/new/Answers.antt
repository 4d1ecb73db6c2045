use Rattle.std.proofs.Common.{rules, ◌≡◌, ◌+◌, [], ◌∷◌, ◌++◌, length}
use Rattle.lq_frames.specs.Body.{number}
use Rattle.lq_frames.proofs.Texts.{encoded_state, is_state_encoded, state_in-entry}
use Rattle.lq_frames.proofs.state.EncodedState.new.Goals as goal

pub invariant_of-result : goal.invariant_of-result
invariant_of-result c =
    let is : c.push-2.new.self.items ≡ number (1 + length c.args.state.now) ++ 83 ∷ [] ++ c.args.state.now ++ 0 ∷ [] = search rules in
    is_state_encoded c.args.state.now c.push-2.new.self.items (encoded_state c.args.state.now c.push-2.new.self.items is)

pub returns : goal.returns
returns c =
    let is : c.push-2.new.self.items ≡ number (1 + length c.args.state.now) ++ 83 ∷ [] ++ c.args.state.now ++ 0 ∷ [] = search rules in
    state_in-entry c.args.state.now c.push-2.new.self.items (encoded_state c.args.state.now c.push-2.new.self.items is)
