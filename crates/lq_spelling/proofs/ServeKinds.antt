-- The kinds of unquoted words that are not reserved.
use Rattle.std.proofs.Common.{◌≡◌, Bool, true, false, ap, refl, rules}
use denote.Enum.Bare.{same_true}
use Rattle.lq_model.specs.SqlParser.{same_kind}
use Rattle.lq_model.specs.SqlWord.{may_be_name}
use Rattle.lq_model.specs.contracts.word.WordKind.{the_type}
use Rattle.lq_model.specs.declared.word.WordKind.{WordKind}
use Rattle.lq_model.specs.declared.word.WordKind.TheVariants as word

pub data Loose : Type 0 where
  Plain : Loose
  Action : Loose
  AutoIncrement : Loose
  By : Loose
  Cascade : Loose
  Count : Loose
  Generated : Loose
  Identity : Loose
  Increment : Loose
  Index : Loose
  Key : Loose
  Modify : Loose
  No : Loose
  Rename : Loose
  Replace : Loose
  Restrict : Loose
  Sequence : Loose
  Start : Loose
  View : Loose
  With : Loose

abbrev pub kind_of : Loose → WordKind
kind_of Plain = word.Plain
kind_of Action = word.Action
kind_of AutoIncrement = word.AutoIncrement
kind_of By = word.By
kind_of Cascade = word.Cascade
kind_of Count = word.Count
kind_of Generated = word.Generated
kind_of Identity = word.Identity
kind_of Increment = word.Increment
kind_of Index = word.Index
kind_of Key = word.Key
kind_of Modify = word.Modify
kind_of No = word.No
kind_of Rename = word.Rename
kind_of Replace = word.Replace
kind_of Restrict = word.Restrict
kind_of Sequence = word.Sequence
kind_of Start = word.Start
kind_of View = word.View
kind_of With = word.With

-- the word in its quotes is of the other kind
abbrev pub kind_at : Loose → Bool → WordKind
kind_at l true = kind_of l
kind_at l false = word.Quoted

pub record IsLoose (k : WordKind) : Type 0 where
  pub loose : Loose
  pub is : kind_of loose ≡ k

pub loose_of : (k : WordKind) → may_be_name k ≡ true → same_kind k word.Quoted ≡ false → IsLoose k
unfolding same_kind
loose_of word.Quoted can unquoted = absurd (cc)
loose_of word.Plain can unquoted = record { loose = Plain; is = refl }
loose_of word.Action can unquoted = record { loose = Action; is = refl }
loose_of word.AutoIncrement can unquoted = record { loose = AutoIncrement; is = refl }
loose_of word.By can unquoted = record { loose = By; is = refl }
loose_of word.Cascade can unquoted = record { loose = Cascade; is = refl }
loose_of word.Count can unquoted = record { loose = Count; is = refl }
loose_of word.Generated can unquoted = record { loose = Generated; is = refl }
loose_of word.Identity can unquoted = record { loose = Identity; is = refl }
loose_of word.Increment can unquoted = record { loose = Increment; is = refl }
loose_of word.Index can unquoted = record { loose = Index; is = refl }
loose_of word.Key can unquoted = record { loose = Key; is = refl }
loose_of word.Modify can unquoted = record { loose = Modify; is = refl }
loose_of word.No can unquoted = record { loose = No; is = refl }
loose_of word.Rename can unquoted = record { loose = Rename; is = refl }
loose_of word.Replace can unquoted = record { loose = Replace; is = refl }
loose_of word.Restrict can unquoted = record { loose = Restrict; is = refl }
loose_of word.Sequence can unquoted = record { loose = Sequence; is = refl }
loose_of word.Start can unquoted = record { loose = Start; is = refl }
loose_of word.View can unquoted = record { loose = View; is = refl }
loose_of word.With can unquoted = record { loose = With; is = refl }
loose_of _ can unquoted = absurd (cc)

pub name_at : (l : Loose) (unquoted : Bool) → may_be_name (kind_at l unquoted) ≡ true
name_at l false = refl
name_at Plain true = refl
name_at Action true = refl
name_at AutoIncrement true = refl
name_at By true = refl
name_at Cascade true = refl
name_at Count true = refl
name_at Generated true = refl
name_at Identity true = refl
name_at Increment true = refl
name_at Index true = refl
name_at Key true = refl
name_at Modify true = refl
name_at No true = refl
name_at Rename true = refl
name_at Replace true = refl
name_at Restrict true = refl
name_at Sequence true = refl
name_at Start true = refl
name_at View true = refl
name_at With true = refl

-- such a word is none of the reserved ones
pub apart : (l : Loose) (unquoted : Bool) (k : WordKind) → may_be_name k ≡ false → same_kind (kind_at l unquoted) k ≡ false
unfolding same_kind
apart l unquoted k reserved =
    by (same_kind (kind_at l unquoted) k) refl
  where
    by : (flag : Bool) → same_kind (kind_at l unquoted) k ≡ flag → flag ≡ false
    by true same = absurd (cc (ap may_be_name (same_true the_type (search rules) (kind_at l unquoted) k same), name_at l unquoted, reserved))
    by false same = refl
