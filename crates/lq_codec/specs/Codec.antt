-- What is written as bytes so that it can be read back from their front: a small algebra.
use Rattle.std.specs.List.{list_all}
use Rattle.std.specs.Prelude.{Bool, List, None, Option, Some, [], false, if◌then◌else◌, length, option_map, suc, true, zero, ℕ, ◌&&◌, ◌++◌, ◌==◌, ◌∷◌, ◌≡◌}

-- How values of a type are written, and what stands at the front of bytes, with what follows it.
-- Only those that are `ok` can be read back.
pub record Codec (A : Type 0) : Type 0 where
  pub ok : A → Bool
  pub write : A → List ℕ
  pub read : List ℕ → Option (A × List ℕ)

-- what is written is read back, whatever follows it; and bytes that are read are those that are written of it
pub record IsCodec {A : Type 0} (c : Codec A) : Type 0 where
  pub back : (a : A) (rest : List ℕ) → c.ok a ≡ true → c.read (c.write a ++ rest) ≡ Some (a, rest)
  pub only : (bytes rest : List ℕ) (a : A) → c.read bytes ≡ Some (a, rest)
      → (c.ok a ≡ true) × (bytes ≡ c.write a ++ rest)

-- the one value, without bytes
abbrev pub one : Codec (Unit {0})
one = record { ok = λ u. true; write = λ u. []; read = λ bytes. Some (tt, bytes) }

-- no value
abbrev pub nothing : {A : Type 0} → Codec A
nothing = record { ok = λ a. false; write = λ a. []; read = λ bytes. None }

-- one after the other
abbrev pub beside : {A B : Type 0} → A → B × List ℕ → (A × B) × List ℕ
beside a next = ((a, next.0), next.1)

-- what follows may depend on what was read
abbrev pub then_read : {A B : Type 0} → (A → Codec B) → Option (A × List ℕ) → Option ((A × B) × List ℕ)
then_read d None = None
then_read d (Some (a, rest)) = option_map (beside a) ((d a).read rest)

abbrev pub after : {A B : Type 0} → Codec A → (A → Codec B) → Codec (A × B)
after c d = record {
  ok = λ p. c.ok p.0 && (d p.0).ok p.1;
  write = λ p. c.write p.0 ++ (d p.0).write p.1;
  read = λ bytes. then_read d (c.read bytes);
}

abbrev pub both : {A B : Type 0} → Codec A → Codec B → Codec (A × B)
both c d = after c (λ a. d)

-- the values that stand for those of another type
abbrev pub ok_some : {B : Type 0} → Codec B → Option B → Bool
ok_some c None = false
ok_some c (Some b) = c.ok b

abbrev pub write_some : {B : Type 0} → Codec B → Option B → List ℕ
write_some c None = []
write_some c (Some b) = c.write b

abbrev pub always : {A B : Type 0} → A → B → A
always a b = a

abbrev pub under : {A B : Type 0} → (B → A) → B × List ℕ → A × List ℕ
under f next = (f next.0, next.1)

abbrev pub mapped : {A B : Type 0} → (B → A) → (A → Option B) → Codec B → Codec A
mapped f g c = record {
  ok = λ a. ok_some c (g a);
  write = λ a. write_some c (g a);
  read = λ bytes. option_map (under f) (c.read bytes);
}

-- a part of them
abbrev pub if_ok : {A : Type 0} → (A → Bool) → Option (A × List ℕ) → Option (A × List ℕ)
if_ok p None = None
if_ok p (Some (a, rest)) = if p a then Some (a, rest) else None

abbrev pub only_if : {A : Type 0} → (A → Bool) → Codec A → Codec A
only_if p c = record { ok = λ a. p a && c.ok a; write = c.write; read = λ bytes. if_ok p (c.read bytes) }

-- a variant is a byte, its place, and then its fields
abbrev pub at_place : {A : Type 0} → List (Codec A) → ℕ → Codec A
at_place [] n = nothing
at_place (c ∷ cs) zero = c
at_place (c ∷ cs) (suc n) = at_place cs n

abbrev pub read_at : {A : Type 0} → List (Codec A) → List ℕ → Option (A × List ℕ)
read_at cs [] = None
read_at cs (byte ∷ rest) = (at_place cs byte).read rest

abbrev pub variant : {A : Type 0} → (A → ℕ) → List (Codec A) → Codec A
variant place cs = record {
  ok = λ a. (at_place cs (place a)).ok a;
  write = λ a. place a ∷ (at_place cs (place a)).write a;
  read = read_at cs;
}

-- so many, one after the other
abbrev pub write_each : {A : Type 0} → Codec A → List A → List ℕ
write_each c [] = []
write_each c (a ∷ rest) = c.write a ++ write_each c rest

abbrev pub ahead : {A : Type 0} → A → List A × List ℕ → List A × List ℕ
ahead a next = (a ∷ next.0, next.1)

abbrev pub then_more : {A : Type 0} → (List ℕ → Option (List A × List ℕ)) → Option (A × List ℕ)
    → Option (List A × List ℕ)
then_more more None = None
then_more more (Some (a, rest)) = option_map (ahead a) (more rest)

abbrev pub read_each : {A : Type 0} → Codec A → ℕ → List ℕ → Option (List A × List ℕ)
read_each c zero bytes = Some ([], bytes)
read_each c (suc n) bytes = then_more (read_each c n) (c.read bytes)

abbrev pub each : {A : Type 0} → ℕ → Codec A → Codec (List A)
each n c = record {
  ok = λ xs. length xs == n && list_all c.ok xs;
  write = write_each c;
  read = read_each c n;
}

-- a list is its count and its items
abbrev pub then_each : {A : Type 0} → Codec A → Option (ℕ × List ℕ) → Option (List A × List ℕ)
then_each c None = None
then_each c (Some (n, rest)) = read_each c n rest

abbrev pub counted : {A : Type 0} → Codec ℕ → Codec A → Codec (List A)
counted count c = record {
  ok = λ xs. count.ok (length xs) && list_all c.ok xs;
  write = λ xs. count.write (length xs) ++ write_each c xs;
  read = λ bytes. then_each c (count.read bytes);
}

-- an option is the byte 0, or the byte 1 and the value
abbrev pub option_place : {A : Type 0} → Option A → ℕ
option_place None = 0
option_place (Some a) = 1

abbrev pub none_in : {A : Type 0} → Option A → Option (Unit {0})
none_in None = Some tt
none_in (Some a) = None

abbrev pub no_one : {A : Type 0} → Unit {0} → Option A
no_one u = None

abbrev pub some_in : {A : Type 0} → Option A → Option A
some_in o = o

abbrev pub optional : {A : Type 0} → Codec A → Codec (Option A)
optional c = variant option_place (mapped no_one none_in one ∷ mapped Some some_in c ∷ [])

-- all the bytes
abbrev pub if_all : {A : Type 0} → Option (A × List ℕ) → Option A
if_all None = None
if_all (Some (a, [])) = Some a
if_all (Some (a, byte ∷ rest)) = None

abbrev pub read_all : {A : Type 0} → Codec A → List ℕ → Option A
read_all c bytes = if_all (c.read bytes)
