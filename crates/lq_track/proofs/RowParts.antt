-- A row is read where both of its parts are.
use Rattle.std.proofs.Common.{ℕ, List, [], ◌∷◌, None, Option, Some, drop, option_and_then, option_map, refl, take, ◌≡◌}
use Rattle.lq_base.specs.declared.tracking.Exec.{Exec}
use Rattle.lq_base.specs.declared.value.Value.{Value}
use Rattle.lq_base.specs.declared.value.Value.TheVariants.{Int, Text, Moment}
use Rattle.lq_track.specs.Database.{exec_in, order_in, row_in, text_in, details_in, joined, run_in}
use Rattle.lq_track.specs.declared.row_reading.Details.{Details}
use Rattle.lq_track.specs.declared.row_reading.Run.{Run}

-- two values of each part, in one chain or part by part
together : (run : ℕ → Exec → Run) (details : Option (List ℕ) → Option (List ℕ) → Details)
    (order : Option ℕ) (exec : Option Exec) (md5sum tag : Option (Option (List ℕ)))
    → option_and_then (λ o. option_and_then (λ e. option_and_then (λ m. option_map (λ t. joined (run o e) (details m t)) tag) md5sum) exec) order
    ≡ option_and_then (λ r. option_map (λ d. joined r d) (option_and_then (λ m. option_map (λ t. details m t) tag) md5sum)) (option_and_then (λ o. option_map (λ e. run o e) exec) order)
together run details None exec md5sum tag = refl
together run details (Some o) None md5sum tag = refl
together run details (Some o) (Some e) None tag = refl
together run details (Some o) (Some e) (Some m) None = refl
together run details (Some o) (Some e) (Some m) (Some t) = refl

-- nothing where the second part is nothing
nothing : (run : Option Run) → None ≡ option_and_then (λ r. option_map (λ d. joined r d) None) run
nothing None = refl
nothing (Some r) = refl

pub row_in_parts : (values : List Value) → row_in values ≡ option_and_then (λ run. option_map (λ details. joined run details) (details_in (drop 6 values))) (run_in (take 6 values))
unfolding row_in run_in details_in
row_in_parts (Text id ∷ Text author ∷ Text filename ∷ Moment date ∷ Int order ∷ Text exec ∷ md5sum ∷ Text description ∷ Text comments ∷ tag ∷ Text tool ∷ Text contexts ∷ Text labels ∷ Text deployment ∷ []) =
    together
    (λ o e. record { id = id; author = author; filename = filename; date = date; order = o; exec = e })
    (λ m t. record { md5sum = m; description = description; comments = comments; tag = t; tool = tool; contexts = contexts; labels = labels; deployment = deployment })
    (order_in order) (exec_in exec) (text_in md5sum) (text_in tag)
row_in_parts (Text id ∷ Text author ∷ Text filename ∷ Moment date ∷ Int order ∷ Text exec ∷ rest) =
    nothing (run_in (Text id ∷ Text author ∷ Text filename ∷ Moment date ∷ Int order ∷ Text exec ∷ []))
row_in_parts _ = refl
