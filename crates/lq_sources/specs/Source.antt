-- What the files hold that a loading reads.
use Rattle.std.specs.List.Sorted.{IsStrictlySortedBy}
use Rattle.std.specs.Prelude.{List, None, Option, Some, ℕ, ◌≡◌}
use Rattle.lq_base.specs.Name.{text_cmp}
use Rattle.lq_outside.specs.Forms.{IsListing, held_in}

-- the bytes at each path, and the paths of all files under each folder, in order of their bytes
pub record Source : Type 0 where
  pub content : List ℕ → Option (List ℕ)
  pub under : List ℕ → List (List ℕ)

-- the source is what the files hold
pub record IsSourceOf (files : List ℕ → Option (List ℕ)) (source : Source) : Type 0 where
  pub content : source.content ≡ files
  pub listing : (folder : List ℕ) → IsListing files folder (source.under folder)
  pub ordered : (folder : List ℕ) → IsStrictlySortedBy text_cmp (source.under folder)

-- the same of what files tell; of files that tell nothing no source is known
abbrev pub IsTold : Option (List ℕ → Option (List ℕ)) → Source → Type 0
IsTold None source = ⊥
IsTold (Some files) source = IsSourceOf files source

-- each list of files has a source
abbrev pub FilesHaveSource : Type 0
FilesHaveSource = (files : List (List ℕ × List ℕ)) → (source : Source) × IsSourceOf (held_in files) source

-- files have no second source
abbrev pub SourceIsOne : Type 0
SourceIsOne = (files : List ℕ → Option (List ℕ)) (one other : Source) → IsSourceOf files one → IsSourceOf files other → (folder : List ℕ) → one.under folder ≡ other.under folder
