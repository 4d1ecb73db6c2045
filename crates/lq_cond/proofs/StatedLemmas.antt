-- What is said in parts is said as a whole.
use Rattle.std.proofs.Common.{ap, append_assoc, append-nil, drop, get_or, length, refl, sym, ◌+◌, ◌<◌, ◌∙◌}
use Rattle.std.proofs.lemmas.List.{drop_more}
use Rattle.std.specs.List.{flat_map}
use Rattle.std.specs.Prelude.{Err, List, Ok, [], ℕ, ◌++◌, ◌∷◌, ◌≡◌}
use Rattle.lq_base.specs.declared.fault.KindFault.{KindFault}
use Rattle.lq_tree.specs.Look.{Found, Taken, and_then, map_found, within}
use Rattle.lq_tree.specs.Items.{item_path}
use Rattle.lq_tree.specs.declared.node.Node.{Node}
use Rattle.lq_cond.specs.Reading.{an_item, conds_of, each_item}
use Rattle.lq_cond.specs.Stated.{and_more}
use Rattle.lq_cond.specs.declared.setting.Setting.{Setting}
use Rattle.lq_cond.specs.declared.setting.Setting.TheVariants.{Condition, Message, OnError, OnFail}
use Rattle.lq_cond.specs.declared.setting.Stated.{Stated}

one_more : (s : Stated) (x : Setting) (xs : List Setting) → and_more (and_more s (x ∷ [])) xs ≡ and_more s (x ∷ xs)
one_more s (Condition cond) xs = rw (append_assoc s.conds (cond ∷ []) (flat_map conds_of xs)) refl
one_more s (OnFail reaction) xs = rw (append-nil s.conds) refl
one_more s (OnError reaction) xs = rw (append-nil s.conds) refl
one_more s Message xs = rw (append-nil s.conds) refl

more : (s : Stated) (xs ys : List Setting) → and_more (and_more s xs) ys ≡ and_more s (xs ++ ys)
more s [] ys = rw (append-nil s.conds) refl
more s (x ∷ xs) ys =
    ap (λ t. and_more t ys) (sym (one_more s x xs)) ∙ more (and_more s (x ∷ [])) xs ys ∙ one_more s x (xs ++ ys)

pub key_read : (s : Stated) (x : Setting) (rest : Found (List Setting)) → map_found (and_more s) (map_found (λ found. x ∷ found) rest) ≡ map_found (and_more (and_more s (x ∷ []))) rest
key_read s x (Ok xs) = ap (λ t. Ok t) (sym (one_more s x xs))
key_read s x (Err fault) = refl

pub item_read : (s : Stated) (xs : List Setting) (rest : Found (List Setting)) → map_found (and_more s) (map_found (λ found. xs ++ found) rest) ≡ map_found (and_more (and_more s xs)) rest
item_read s xs (Ok ys) = ap (λ t. Ok t) (sym (more s xs ys))
item_read s xs (Err fault) = refl

pub item_stated : (s t : Stated) (path : List ℕ) (item : Found (List Setting)) (rest : Found (List Setting)) → within path (map_found (and_more s) item) ≡ Ok t → map_found (and_more s) (and_then (within path item) (λ xs. map_found (λ found. xs ++ found) rest)) ≡ map_found (and_more t) rest
item_stated s t path (Ok xs) rest is =
    let same : and_more s xs ≡ t = Prim.cc in
    item_read s xs rest ∙ ap (λ u. map_found (and_more u) rest) same
item_stated s t path (Err fault) rest is = absurd Prim.cc

pub item_faulty : (s : Stated) (fault : KindFault) (path : List ℕ) (item : Found (List Setting)) (rest : Found (List Setting)) → within path (map_found (and_more s) item) ≡ Err fault → map_found (and_more s) (and_then (within path item) (λ xs. map_found (λ found. xs ++ found) rest)) ≡ Err fault
item_faulty s fault path (Ok xs) rest is = absurd Prim.cc
item_faulty s fault path (Err other) rest is = is

pub item_next : (takes : List ℕ → Taken Setting) (s t : Stated) (place : ℕ) (nodes : List Node) (n : Node) → place < length nodes → n ≡ get_or nodes place n → within (item_path [] place) (map_found (and_more s) (an_item takes n)) ≡ Ok t
    → map_found (and_more s) (each_item place takes (drop place nodes)) ≡ map_found (and_more t) (each_item (place + 1) takes (drop (place + 1) nodes))
item_next takes s t place nodes n below is made =
    let split : drop place nodes ≡ n ∷ drop (place + 1) nodes = drop_more nodes place n below ∙ ap (λ m. m ∷ drop (place + 1) nodes) (sym is) in
    ap (λ ns. map_found (and_more s) (each_item place takes ns)) split ∙ item_stated s t (item_path [] place) (an_item takes n) (each_item (place + 1) takes (drop (place + 1) nodes)) made
