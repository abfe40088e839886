-- Identifiers, and the features and vertices that words name.
use Rattle.std.specs.Prelude.{ℕ, ◌^◌, Bool, ◌&&◌, List, length, Option, None, Some, Result, Ok, Err, nat_lt, nat_le, bytes_eq, codes, if◌then◌else◌}
use Rattle.std.specs.Char.{is_ascii_digit}
use Rattle.std.specs.List.{list_all}
use Rattle.sf_refusals.specs.declared.refusal.Refusal.{Refusal}
use Rattle.sf_refusals.specs.declared.refusal.Refusal.TheVariants.{BadCommand}
use Rattle.sf_wkt.specs.Tokens.{digits_value}
use Rattle.sf_words.specs.declared.naming.Naming.{Naming}
use Rattle.sf_words.specs.declared.naming.Naming.TheVariants.{ById, OrLast}
use Rattle.sf_words.specs.declared.vertex_place.VertexPlace.{VertexPlace}

-- whether a word stands for the feature that a layer was given last
abbrev pub is_last : List ℕ → Bool
is_last word = bytes_eq word (codes "last")

-- whether a word stands before the features at which chains end
abbrev pub is_until : List ℕ → Bool
is_until word = bytes_eq word (codes "until")

-- how many digits an identifier has at most
abbrev pub id_digits_max : ℕ
id_digits_max = 10

-- the identifier, place or index that one to ten digits spell, where it has 32 bits
abbrev pub id_of : List ℕ → Option ℕ
id_of word = let id = digits_value word in
    if (nat_le (length word) id_digits_max && list_all is_ascii_digit word) && (nat_lt 0 (length word) && nat_lt id (2 ^ 32)) then Some id else None

-- the feature that a word names: by its identifier; or, where that may be, as the last one, whose identifier is not known yet
abbrev pub id_named : Naming → List ℕ → Option ℕ
id_named ById word = id_of word
id_named OrLast word = if is_last word then Some 0 else id_of word

-- what is made of a word that could be read
abbrev pub given : {X Y : Type 0} → Option X → (X → Result Y Refusal) → Result Y Refusal
given None make = Err BadCommand
given (Some x) make = make x

-- the vertex that four words name
abbrev pub vertex_place : Naming → List ℕ → List ℕ → List ℕ → List ℕ → Result VertexPlace Refusal
vertex_place naming id part ring index =
    given (id_named naming id) (λ id. given (id_of part) (λ part. given (id_of ring) (λ ring. given (id_of index) (λ index.
    Ok (record { id = id; part = part; ring = ring; index = index })))))
