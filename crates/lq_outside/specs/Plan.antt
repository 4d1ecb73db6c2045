-- Which calls of a memory form fail.
use Rattle.std.specs.List.{list_any}
use Rattle.std.specs.Prelude.{Bool, List, min, ℕ, ◌+◌, ◌-◌, ◌==◌, ◌^◌, ◌≡◌}
use Rattle.lq_outside.specs.declared.mem_disk.MemDisk.{MemDisk}
use Rattle.lq_outside.specs.declared.mem_files.MemFiles.{MemFiles}
use Rattle.lq_outside.specs.declared.mem_sink.MemSink.{MemSink}
use Rattle.lq_outside.specs.declared.plan.Plan.{Plan}

-- the number of the next call: the first has 1
abbrev pub next : Plan → ℕ
next plan = min (plan.made + 1) (2 ^ 64 - 1)

-- the next call is one of those that are to fail
abbrev pub fails : Plan → Bool
fails plan = list_any (λ number. number == next plan) plan.fail.items

-- before the first call
abbrev pub Starts : List ℕ → Plan → Type 0
Starts fail plan = (plan.fail.items ≡ fail) × (plan.made ≡ 0)

-- one more call was made, and the same ones are to fail
abbrev pub GoesOn : Plan → Plan → Type 0
GoesOn before now = (now.fail.items ≡ before.fail.items) × (now.made ≡ next before)

abbrev pub plan_of_files : MemFiles → Plan
plan_of_files files = files.plan

abbrev pub plan_of_disk : MemDisk → Plan
plan_of_disk disk = disk.plan

abbrev pub plan_of_sink : MemSink → Plan
plan_of_sink sink = sink.plan
