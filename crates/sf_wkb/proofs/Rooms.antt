-- Room for bytes that are put one after another.
use Rattle.std.proofs.Common.{◌≡◌, ℕ, ◌+◌, ◌<◌, ◌≤◌, List, ◌++◌, length, take, drop, get_or, refl, sym, ap, ◌∙◌, arith, length-append}
use Rattle.std.proofs.lemmas.Grind.{flat_map-append}
use Rattle.std.proofs.lemmas.List.{take-append-drop}
use Rattle.std.specs.List.{flat_map}
use Rattle.sf_wkb.proofs.Appending.{put_item}

-- room for the first of two pieces
pub room_first : (n capacity : ℕ) (a b : List ℕ) → n + length (a ++ b) ≤ capacity → n + length a ≤ capacity
room_first n capacity a b room = let both = length-append a b in omega (arith, both, room)

-- room for the second, behind the first
pub room_second : (capacity capacity_now : ℕ) (old now a b : List ℕ) → now ≡ old ++ a → length old + length (a ++ b) ≤ capacity → capacity ≤ capacity_now
    → length now + length b ≤ capacity_now
room_second capacity capacity_now old now a b put room kept =
    let behind = ap length put ∙ length-append old a in
    let both = length-append a b in
    omega (arith, behind, both, room, kept)

-- room for one more item behind a count and the items before it
pub room_item : {T : Type 0} (bytes : T → List ℕ) (xs : List T) (i : ℕ) (x : T) (capacity capacity_now : ℕ) (old count now : List ℕ) → i < length xs → x ≡ get_or xs i x
    → now ≡ old ++ (count ++ flat_map bytes (take i xs)) → length old + length (count ++ flat_map bytes xs) ≤ capacity → capacity ≤ capacity_now
    → length now + length (bytes x) ≤ capacity_now
room_item bytes xs i x capacity capacity_now old count now within x_is put room kept =
    let done = flat_map bytes (take (i + 1) xs) in
    let left = flat_map bytes (drop (i + 1) xs) in
    let further : now ++ bytes x ≡ old ++ (count ++ done) = put_item bytes xs i x old count now (now ++ bytes x) within x_is put refl in
    let lengths = sym (length-append now (bytes x)) ∙ ap length further ∙ length-append old (count ++ done) in
    let upto = length-append count done in
    let whole = length-append count (flat_map bytes xs) in
    let parts : length (flat_map bytes xs) ≡ length done + length left =
    sym (ap length (sym (flat_map-append bytes (take (i + 1) xs) (drop (i + 1) xs)) ∙ ap (flat_map bytes) (take-append-drop (i + 1) xs))) ∙ length-append done left in
    omega (arith, lengths, upto, whole, parts, room, kept)

-- room for the header of one more item
pub room_header : {T : Type 0} (header : List ℕ) (body : T → List ℕ) (xs : List T) (i : ℕ) (x : T) (capacity capacity_now : ℕ) (old count now : List ℕ)
    → i < length xs → x ≡ get_or xs i x → now ≡ old ++ (count ++ flat_map (λ y. header ++ body y) (take i xs))
    → length old + length (count ++ flat_map (λ y. header ++ body y) xs) ≤ capacity → capacity ≤ capacity_now → length now + length header ≤ capacity_now
room_header header body xs i x capacity capacity_now old count now within x_is put room kept =
    room_first (length now) capacity_now header (body x) (room_item (λ y. header ++ body y) xs i x capacity capacity_now old count now within x_is put room kept)

-- room for what stands behind that header
pub room_body : {T : Type 0} (header : List ℕ) (body : T → List ℕ) (xs : List T) (i : ℕ) (x : T) (capacity capacity_now capacity_headed : ℕ) (old count now headed : List ℕ)
    → i < length xs → x ≡ get_or xs i x → now ≡ old ++ (count ++ flat_map (λ y. header ++ body y) (take i xs))
    → length old + length (count ++ flat_map (λ y. header ++ body y) xs) ≤ capacity → capacity ≤ capacity_now
    → headed ≡ now ++ header → capacity_now ≤ capacity_headed → length headed + length (body x) ≤ capacity_headed
room_body header body xs i x capacity capacity_now capacity_headed old count now headed within x_is put room kept behind kept_headed =
    room_second capacity_now capacity_headed now headed header (body x) behind
    (room_item (λ y. header ++ body y) xs i x capacity capacity_now old count now within x_is put room kept) kept_headed
