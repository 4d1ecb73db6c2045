-- What holds of the definitions.
use Rattle.std.specs.Prelude.{List, Some, suc, true, ℕ, ◌≡◌}
use Rattle.laws_repair.specs.Repair.{Mark}
use Rattle.lq_base.specs.Kind.{plain_number}
use Rattle.lq_base.specs.declared.tracking.Lock.{Lock}
use Rattle.lq_report.specs.declared.mark.Form.{Form}
use Rattle.lq_unrecorded.specs.Part.{holder, is_back, number_in, part_mark}

-- it is read as this mark
pub record IsReadAs (lock : Lock) (mark : Mark lock) : Type 0 where
  pub form : Form
  pub digits : List ℕ
  pub part : part_mark lock ≡ Some (mark.name, form, digits)
  pub back : is_back form ≡ mark.is_back
  pub number : number_in (plain_number digits) ≡ suc mark.k
  pub who : holder lock ≡ mark.who

-- a lock that is held with a mark of the first two forms
abbrev pub MarksAreParts : Type 0
MarksAreParts = (lock : Lock) (mark : Mark lock) → lock.locked ≡ true → IsReadAs lock mark
