-- Where each piece is a group of its own, the groups that have a count are the pieces again; and in the room that was measured, what is recorded are the cells.
use Rattle.std.proofs.Common.{◌≡◌, refl, ap, sym, ◌∙◌, add-one, subst, ℕ, zero, suc, ◌+◌, ◌-◌, ◌≤◌, ◌<◌, ◌^◌, arith, Bool, true, false, ◌&&◌, nat_lt, List, [], ◌∷◌, ◌++◌, map, take, drop, length, slice_index, ◌==◌, cond, inl, inr}
use Rattle.std.specs.Prelude.{if◌then◌else◌}
use Rattle.std.specs.List.{All, count_by, flat_map, fold}
use Rattle.std.proofs.lemmas.Bool.{eq-eqb, lt-ltb}
use Rattle.std.proofs.lemmas.Bool.Decides.{eqb_tells}
use Rattle.std.proofs.lemmas.List.{append-nil, append_assoc, length-append, length-map}
use Rattle.std.proofs.lemmas.List.Elements.{All-append, All-cons, All-head, All-nil, All-tail}
use Rattle.std.proofs.lemmas.List.Sums.{sum_by-cons}
use Rattle.std.proofs.Math.Seq.{drop-append_seam, take-append_seam}
use Rattle.sf_cells.specs.declared.cell.Cell.{Cell}
use Rattle.sf_cells.specs.declared.listing.Head.{Head}
use Rattle.sf_strips.specs.declared.piece.Piece.{Piece}
use Rattle.sf_cells.specs.Cells.{cell_of, cells, numbers_from}
use Rattle.sf_cells.specs.Groups.{Item, counts, group_count, item_of, numbers}
use Rattle.sf_cells.specs.Listing.{Listing, Measured, counted, head_of, is_counted, measure, record_item, recorded_cells, total, with_head, with_number}
use Rattle.sf_cells.specs.Pieces.{is_above, is_on}
use Rattle.sf_cells.specs.Samples.{Sample, samples}
use Rattle.sf_cells.proofs.CountLaws.{counts-numbers_from, fold-append, tally}
use Rattle.sf_cells.proofs.TallyLaws.{length-numbers}

-- ---- groups of one piece each
-- there are as many groups as the last number says
group_count-from : (k n : ℕ) → group_count (numbers k (suc n)) ≡ k + suc n
group_count-from k zero = omega arith
group_count-from k (suc n) =
    let later : group_count (numbers (k + 1) (suc n)) ≡ (k + 1) + suc n = group_count-from (k + 1) n in
    omega arith

-- as many groups as pieces
pub group_count-numbers : (n : ℕ) → group_count (numbers 0 n) ≡ n
group_count-numbers zero = refl
group_count-numbers (suc n) = group_count-from 0 n ∙ omega arith

-- the number at a place
numbers-at : (k n i : ℕ) → i < n → slice_index (numbers k n) i ≡ k + i
numbers-at k zero i h = absurd (omega arith)
numbers-at k (suc n) zero h = omega arith
numbers-at k (suc n) (suc i) h =
    let later : slice_index (numbers (k + 1) n) i ≡ (k + 1) + i = numbers-at (k + 1) n i (omega arith) in
    later ∙ omega arith

-- all of them are below the last one's successor
numbers-below : (limit k n : ℕ) → k + n ≤ limit → All (λ g. g < limit) (numbers k n)
numbers-below limit k zero h = All-nil (λ g. g < limit)
numbers-below limit k (suc n) h = All-cons (λ g. g < limit) k (numbers (k + 1) n) (omega arith) (numbers-below limit (k + 1) n (omega arith))

-- a list of groups, one for each of n pieces: its length, and their range
pub own-length : (groups : List ℕ) (n : ℕ) → groups ≡ numbers 0 n → length groups ≡ n
own-length groups n e = ap length e ∙ length-numbers 0 n

pub own-below : (groups : List ℕ) (n : ℕ) → groups ≡ numbers 0 n → All (λ g. g < n) groups
own-below groups n e = subst (All (λ g. g < n)) (sym e) (numbers-below n 0 n (omega arith))

-- one number more
pub numbers-more : (n : ℕ) → numbers 0 (n + 1) ≡ numbers 0 n ++ n ∷ []
numbers-more n = ap (numbers 0) (add-one n) ∙ longer 0 n ∙ ap (λ m. numbers 0 n ++ m ∷ []) (omega arith)
  where
    longer : (k n : ℕ) → numbers k (suc n) ≡ numbers k n ++ (k + n) ∷ []
    longer k zero = ap (λ m. m ∷ []) (omega arith)
    longer k (suc n) = ap (λ ms. k ∷ ms) (longer (k + 1) n ∙ ap (λ m. numbers (k + 1) n ++ m ∷ []) (omega arith))

-- each of the first n pieces is in the group with its own number
abbrev IsOwn : ℕ → List ℕ → Type 0
IsOwn n groups = (i : ℕ) → i < n → slice_index groups i ≡ i

-- a piece is counted in its own group
own_group : (n : ℕ) (groups : List ℕ) (k : ℕ) → IsOwn n groups → k < n → (slice_index groups k == k) ≡ true
own_group n groups k o h = eq-eqb (slice_index groups k) k (o k h)

-- and in no other one
other_group : (n : ℕ) (groups : List ℕ) (k g : ℕ) → IsOwn n groups → k < n → (k ≡ g → ⊥) → (slice_index groups k == g) ≡ false
other_group n groups k g o h ne =
    elim (eqb_tells (slice_index groups k) g) [ inl same ↦ absurd (ne (sym (o k h) ∙ same.1)) | inr differs ↦ differs.0 ]

-- 1 for a piece that passes, and is in the group
abbrev one_if : Bool → ℕ
one_if b = if b then 1 else 0

abbrev one_if_both : Bool → Bool → ℕ
one_if_both b c = if b then (if c then 1 else 0) else 0

-- a piece that isn't in the group counts for nothing
counts_nothing : (b c : Bool) → c ≡ false → one_if_both b c ≡ 0
counts_nothing true true e = cc
counts_nothing true false e = refl
counts_nothing false c e = refl

-- a piece in the group counts where it passes
counts_itself : (b c : Bool) → c ≡ true → one_if_both b c ≡ one_if b
counts_itself true true e = refl
counts_itself true false e = cc
counts_itself false c e = refl

-- the pieces from k on count for nothing in a group before k
tally-before : {A : Type 0} (n g k : ℕ) (groups : List ℕ) (test : A → Bool) (xs : List A) → IsOwn n groups → k + length xs ≤ n → g < k →
    tally g groups k test xs ≡ 0
tally-before n g k groups test [] o h l = refl
tally-before n g k groups test (x ∷ xs) o h l =
    let here : one_if_both (test x) (slice_index groups k == g) ≡ 0 =
    counts_nothing (test x) (slice_index groups k == g) (other_group n groups k g o (omega arith) (λ e. absurd (omega arith))) in
    let later : tally g groups (k + 1) test xs ≡ 0 = tally-before n g (k + 1) groups test xs o (omega arith) (omega arith) in
    omega arith

-- a count of one or none
once : (b : Bool) (n : ℕ) → n ≡ one_if b → is_counted n ≡ b
once true n e = ap is_counted e
once false n e = ap is_counted e

-- the groups from k on that have a count are the pieces that pass
counted-from : {A : Type 0} (n k : ℕ) (groups : List ℕ) (test : A → Bool) (xs : List A) (f : ℕ → ℕ) → IsOwn n groups → k + length xs ≤ n →
    ((g : ℕ) → k ≤ g → f g ≡ tally g groups k test xs) →
    numbers_from k is_counted (map f (numbers k (length xs))) ≡ numbers_from k test xs
counted-from n k groups test [] f o h e = refl
counted-from n k groups test (x ∷ xs) f o h e =
    let none : tally k groups (k + 1) test xs ≡ 0 = tally-before n k (k + 1) groups test xs o (omega arith) (omega arith) in
    let itself : one_if_both (test x) (slice_index groups k == k) ≡ one_if (test x) =
    counts_itself (test x) (slice_index groups k == k) (own_group n groups k o (omega arith)) in
    let first : f k ≡ one_if_both (test x) (slice_index groups k == k) + tally k groups (k + 1) test xs = e k (omega arith) in
    let here : is_counted (f k) ≡ test x = once (test x) (f k) (omega arith) in
    let rest = numbers_from (k + 1) is_counted (map f (numbers (k + 1) (length xs))) in
    ap (λ b. if b then k ∷ rest else rest) here
    ∙ ap (λ ns. if test x then k ∷ ns else ns)
    (counted-from n (k + 1) groups test xs f o (omega arith) (λ g l. further g l (e g (omega arith))))
  where
    further : (g : ℕ) → k + 1 ≤ g →
        f g ≡ one_if_both (test x) (slice_index groups k == g) + tally g groups (k + 1) test xs →
        f g ≡ tally g groups (k + 1) test xs
    further g l d =
        let nothing : one_if_both (test x) (slice_index groups k == g) ≡ 0 =
        counts_nothing (test x) (slice_index groups k == g) (other_group n groups k g o (omega arith) (λ q. absurd (omega arith))) in
        omega arith

-- the groups that have a count are the pieces that pass, where each piece is a group of its own
pub counted-own : {A : Type 0} (test : A → Bool) (xs : List A) → counted (counts (numbers 0 (length xs)) (numbers_from 0 test xs)) ≡ numbers_from 0 test xs
counted-own test xs =
    let groups = numbers 0 (length xs) in
    let f : ℕ → ℕ = λ g. tally g groups 0 test xs in
    ap counted (counts-numbers_from groups test xs)
    ∙ ap (λ n. counted (map f (numbers 0 n))) (group_count-numbers (length xs))
    ∙ counted-from (length xs) 0 groups test xs f (λ i h. numbers-at 0 (length xs) i h ∙ omega arith) (omega arith) (λ g l. refl)

-- ---- from an item back to its cell
-- an item's cell, where each piece is a group of its own
abbrev pub cell_from : Item → Cell
cell_from i = record { dim = i.dim; on = counted i.on; above = counted i.above }

-- the cell of each sample, back from its item
cells-back : (pieces : List Piece) (ss : List Sample) →
    map cell_from (map (item_of (numbers 0 (length pieces))) (map (cell_of pieces) ss)) ≡ map (cell_of pieces) ss
cells-back pieces [] = refl
cells-back pieces (s ∷ ss) =
    let groups = numbers 0 (length pieces) in
    let rest = map cell_from (map (item_of groups) (map (cell_of pieces) ss)) in
    let cell : List ℕ → List ℕ → Cell = λ on above. record { dim = s.dim; on = on; above = above } in
    ap (λ on. cell on (counted (counts groups (cell_of pieces s).above)) ∷ rest) (counted-own (is_on s.point) pieces)
    ∙ ap (λ above. cell (cell_of pieces s).on above ∷ rest) (counted-own (is_above s.point) pieces)
    ∙ ap (λ cs. cell_of pieces s ∷ cs) (cells-back pieces ss)

-- the cells are those of the items that a walk hands out
pub cells-from_items : (pieces : List Piece) → map cell_from (map (item_of (numbers 0 (length pieces))) (cells pieces)) ≡ cells pieces
cells-from_items pieces = cells-back pieces (samples pieces)

-- ---- what is recorded where there is room
-- the second listing has these heads and numbers more, and the same room in all
record Grew (l m : Listing) (hs : List Head) (ns : List ℕ) : Type 0 where
  heads : m.heads ≡ l.heads ++ hs
  numbers : m.numbers ≡ l.numbers ++ ns
  head_room : m.head_room ≡ l.head_room
  number_room : m.number_room ≡ l.number_room

-- nothing more
Grew-none : (l : Listing) → Grew l l [] []
Grew-none l = record { heads = sym (append-nil l.heads); numbers = sym (append-nil l.numbers); head_room = refl; number_room = refl }

-- one growth after another
Grew-then : {l m o : Listing} {hs gs : List Head} {ns ks : List ℕ} → Grew l m hs ns → Grew m o gs ks → Grew l o (hs ++ gs) (ns ++ ks)
Grew-then {l} {m} {o} {hs} {gs} {ns} {ks} g h =
    record {
      heads = h.heads ∙ ap (λ z. z ++ gs) g.heads ∙ append_assoc l.heads hs gs;
      numbers = h.numbers ∙ ap (λ z. z ++ ks) g.numbers ∙ append_assoc l.numbers ns ks;
      head_room = h.head_room ∙ g.head_room;
      number_room = h.number_room ∙ g.number_room;
    }

-- how many heads there are then
Grew-heads_length : (l m : Listing) (hs : List Head) (ns : List ℕ) → Grew l m hs ns → length m.heads ≡ length l.heads + length hs
Grew-heads_length l m hs ns g = ap length g.heads ∙ length-append l.heads hs

-- and how many numbers
Grew-numbers_length : (l m : Listing) (hs : List Head) (ns : List ℕ) → Grew l m hs ns → length m.numbers ≡ length l.numbers + length ns
Grew-numbers_length l m hs ns g = ap length g.numbers ∙ length-append l.numbers ns

-- a further number of 32 bits, where there is room for it
Grew-number : (l : Listing) (n : ℕ) → n < 2 ^ 32 → length l.numbers < l.number_room → Grew l (with_number l n) [] (n ∷ [])
Grew-number l n small room =
    by_room (nat_lt n (2 ^ 32) && nat_lt (length l.numbers) l.number_room)
    (ap (λ b. b && nat_lt (length l.numbers) l.number_room) (lt-ltb n (2 ^ 32) small) ∙ lt-ltb (length l.numbers) l.number_room room)
  where
    grown : Listing
    grown = record { heads = l.heads; numbers = l.numbers ++ n ∷ []; head_room = l.head_room; number_room = l.number_room }

    by_room : (b : Bool) → b ≡ true → Grew l (if b then grown else l) [] (n ∷ [])
    by_room true e = record { heads = sym (append-nil l.heads); numbers = refl; head_room = refl; number_room = refl }
    by_room false e = cc

-- further numbers
Grew-numbers : (ns : List ℕ) (l : Listing) → All (λ n. n < 2 ^ 32) ns → length l.numbers + length ns ≤ l.number_room → Grew l (fold with_number l ns) [] ns
Grew-numbers [] l small room = Grew-none l
Grew-numbers (n ∷ ns) l small room =
    let here = Grew-number l n (All-head (λ k. k < 2 ^ 32) n ns small) (omega arith) in
    let longer = Grew-numbers_length l (with_number l n) [] (n ∷ []) here in
    Grew-then here (Grew-numbers ns (with_number l n) (All-tail (λ k. k < 2 ^ 32) n ns small) (omega arith))

-- a further head, where there is room for it
Grew-head : (l : Listing) (h : Head) → length l.heads < l.head_room → Grew l (with_head l h) (h ∷ []) []
Grew-head l h room = by_room (nat_lt (length l.heads) l.head_room) (lt-ltb (length l.heads) l.head_room room)
  where
    grown : Listing
    grown = record { heads = l.heads ++ h ∷ []; numbers = l.numbers; head_room = l.head_room; number_room = l.number_room }

    by_room : (b : Bool) → b ≡ true → Grew l (if b then grown else l) (h ∷ []) []
    by_room true e = record { heads = refl; numbers = sym (append-nil l.numbers); head_room = refl; number_room = refl }
    by_room false e = cc

-- the numbers of an item
abbrev pub item_numbers : Item → List ℕ
item_numbers i = counted i.on ++ counted i.above

-- they have 32 bits
abbrev HasSmallNumbers : Item → Type 0
HasSmallNumbers i = All (λ n. n < 2 ^ 32) (item_numbers i)

-- a further item, where there is room for it
Grew-item : (l : Listing) (i : Item) → HasSmallNumbers i → length l.heads < l.head_room → length l.numbers + length (item_numbers i) ≤ l.number_room →
    Grew l (record_item l i) (head_of i ∷ []) (item_numbers i)
Grew-item l i small head_room number_room =
    let filled = fold with_number (fold with_number l (counted i.on)) (counted i.above) in
    let numbers = subst (λ m. Grew l m [] (item_numbers i)) (fold-append with_number l (counted i.on) (counted i.above))
    (Grew-numbers (item_numbers i) l small number_room) in
    let as_many = Grew-heads_length l filled [] (item_numbers i) numbers in
    let all = Grew-then numbers (Grew-head filled (head_of i) (omega arith)) in
    record {
      heads = all.heads;
      numbers = all.numbers ∙ ap (λ ns. l.numbers ++ ns) (append-nil (item_numbers i));
      head_room = all.head_room;
      number_room = all.number_room;
    }

-- all items, where there is room for them
Grew-items : (is : List Item) (l : Listing) → All HasSmallNumbers is → length l.heads + length is ≤ l.head_room →
    length l.numbers + length (flat_map item_numbers is) ≤ l.number_room →
    Grew l (fold record_item l is) (map head_of is) (flat_map item_numbers is)
Grew-items [] l small head_room number_room = Grew-none l
Grew-items (i ∷ is) l small head_room number_room =
    let both = length-append (item_numbers i) (flat_map item_numbers is) in
    let here = Grew-item l i (All-head HasSmallNumbers i is small) (omega arith) (omega arith) in
    let more_heads = Grew-heads_length l (record_item l i) (head_of i ∷ []) (item_numbers i) here in
    let more_numbers = Grew-numbers_length l (record_item l i) (head_of i ∷ []) (item_numbers i) here in
    Grew-then here (Grew-items is (record_item l i) (All-tail HasSmallNumbers i is small) (omega arith) (omega arith))

-- ---- from what is recorded to the cells
-- the first of three lists one after another, and what is behind it
take-first : (n : ℕ) (xs ys zs : List ℕ) → n ≡ length xs → take n ((xs ++ ys) ++ zs) ≡ xs
take-first n xs ys zs e = ap (λ k. take k ((xs ++ ys) ++ zs)) e ∙ ap (λ l. take (length xs) l) (append_assoc xs ys zs) ∙ take-append_seam xs (ys ++ zs)

drop-first : (n : ℕ) (xs ys zs : List ℕ) → n ≡ length xs → drop n ((xs ++ ys) ++ zs) ≡ ys ++ zs
drop-first n xs ys zs e = ap (λ k. drop k ((xs ++ ys) ++ zs)) e ∙ ap (λ l. drop (length xs) l) (append_assoc xs ys zs) ∙ drop-append_seam xs (ys ++ zs)

-- the first of two lists, and the second
take-one : (n : ℕ) (ys zs : List ℕ) → n ≡ length ys → take n (ys ++ zs) ≡ ys
take-one n ys zs e = ap (λ k. take k (ys ++ zs)) e ∙ take-append_seam ys zs

drop-one : (n : ℕ) (ys zs : List ℕ) → n ≡ length ys → drop n (ys ++ zs) ≡ zs
drop-one n ys zs e = ap (λ k. drop k (ys ++ zs)) e ∙ drop-append_seam ys zs

-- as many numbers are recorded as groups have a count
length-numbers_from : (k : ℕ) (ns : List ℕ) → count_by is_counted ns ≡ length (numbers_from k is_counted ns)
length-numbers_from k [] = refl
length-numbers_from k (n ∷ ns) =
    sum_by-cons (λ m. cond (is_counted m) 1 0) n ns ∙ longer (is_counted n) (length-numbers_from (k + 1) ns)
  where
    longer : (b : Bool) → count_by is_counted ns ≡ length (numbers_from (k + 1) is_counted ns) →
        cond b 1 0 + count_by is_counted ns
        ≡ length (if b then k ∷ numbers_from (k + 1) is_counted ns else numbers_from (k + 1) is_counted ns)
    longer true e = omega arith
    longer false e = omega arith

-- the heads take all numbers
pub total-items : (is : List Item) → total (map head_of is) ≡ length (flat_map item_numbers is)
total-items [] = refl
total-items (i ∷ is) =
    let on = length-numbers_from 0 i.on in
    let above = length-numbers_from 0 i.above in
    let later = total-items is in
    let both = length-append (counted i.on) (counted i.above) in
    let all = length-append (item_numbers i) (flat_map item_numbers is) in
    omega arith

-- the recorded cells are the items' cells
pub recorded-items : (is : List Item) → recorded_cells (map head_of is) (flat_map item_numbers is) ≡ map cell_from is
recorded-items [] = refl
recorded-items (i ∷ is) =
    let rest = flat_map item_numbers is in
    let ns = item_numbers i ++ rest in
    let h = head_of i in
    let cell : List ℕ → List ℕ → Cell = λ on above. record { dim = i.dim; on = on; above = above } in
    let later = drop-first h.on (counted i.on) (counted i.above) rest (length-numbers_from 0 i.on) in
    let e = length-numbers_from 0 i.above in
    ap (λ on. cell on (take h.above (drop h.on ns)) ∷ recorded_cells (map head_of is) (drop h.above (drop h.on ns)))
    (take-first h.on (counted i.on) (counted i.above) rest (length-numbers_from 0 i.on))
    ∙ ap (λ z. cell (counted i.on) (take h.above z) ∷ recorded_cells (map head_of is) (drop h.above z)) later
    ∙ ap (λ above. cell (counted i.on) above ∷ recorded_cells (map head_of is) (drop h.above (counted i.above ++ rest)))
    (take-one h.above (counted i.above) rest e)
    ∙ ap (λ z. cell_from i ∷ recorded_cells (map head_of is) z) (drop-one h.above (counted i.above) rest e)
    ∙ ap (λ cs. cell_from i ∷ cs) (recorded-items is)

-- ---- how much room is measured
-- as many cells as items, where that is less than the greatest number
measure-cells : (is : List Item) (m : Measured) → (fold measure m is).cells < 2 ^ 64 - 1 → (fold measure m is).cells ≡ m.cells + length is
measure-cells [] m small = omega arith
measure-cells (i ∷ is) m small =
    let later = measure-cells is (measure m i) small in
    omega arith

-- as many numbers as the items have, where that is less than the greatest number
measure-numbers : (is : List Item) (m : Measured) → (fold measure m is).numbers < 2 ^ 64 - 1 →
    (fold measure m is).numbers ≡ m.numbers + length (flat_map item_numbers is)
measure-numbers [] m small = omega arith
measure-numbers (i ∷ is) m small =
    let on = length-numbers_from 0 i.on in
    let above = length-numbers_from 0 i.above in
    let later = measure-numbers is (measure m i) small in
    let both = length-append (counted i.on) (counted i.above) in
    let all = length-append (item_numbers i) (flat_map item_numbers is) in
    omega arith

-- ---- how great the numbers are
-- the numbers from k on of some members are below a limit that is no less than k and the members
numbers_from-below : {A : Type 0} (limit k : ℕ) (test : A → Bool) (xs : List A) → k + length xs ≤ limit → All (λ n. n < limit) (numbers_from k test xs)
numbers_from-below limit k test [] h = All-nil (λ n. n < limit)
numbers_from-below limit k test (x ∷ xs) h = chosen (test x) (numbers_from-below limit (k + 1) test xs (omega arith))
  where
    chosen : (b : Bool) → All (λ n. n < limit) (numbers_from (k + 1) test xs) →
        All (λ n. n < limit) (if b then k ∷ numbers_from (k + 1) test xs else numbers_from (k + 1) test xs)
    chosen true later = All-cons (λ n. n < limit) k (numbers_from (k + 1) test xs) (omega arith) later
    chosen false later = later

-- the groups that have a count are below a limit that is no less than the groups
counted-below : (limit : ℕ) (groups ps : List ℕ) → group_count groups ≤ limit → All (λ n. n < limit) (counted (counts groups ps))
counted-below limit groups ps h =
    let all = length-map (numbers 0 (group_count groups)) (λ g. count_by (λ i. slice_index groups i == g) ps) in
    let as_many = length-numbers 0 (group_count groups) in
    numbers_from-below limit 0 is_counted (counts groups ps) (omega arith)

-- the numbers of the items have 32 bits where the groups are that few
small-items : (groups : List ℕ) (cs : List Cell) → group_count groups ≤ 2 ^ 32 → All HasSmallNumbers (map (item_of groups) cs)
small-items groups [] h = All-nil HasSmallNumbers
small-items groups (c ∷ cs) h =
    All-cons HasSmallNumbers (item_of groups c) (map (item_of groups) cs)
    (All-append (λ n. n < 2 ^ 32) (counted (counts groups c.on)) (counted (counts groups c.above)) (counted-below (2 ^ 32) groups c.on h) (counted-below (2 ^ 32) groups c.above h))
    (small-items groups cs h)

-- ---- what a second walk records in the room that a first one measured
-- nothing is put down yet, and there is as much room as was measured: less than the greatest number, since it was made
pub record HasMeasuredRoom (m : Measured) (l : Listing) : Type 0 where
  pub heads : l.heads ≡ []
  pub numbers : l.numbers ≡ []
  pub head_room : l.head_room ≡ m.cells
  pub number_room : l.number_room ≡ m.numbers
  pub few_heads : l.head_room < 2 ^ 63
  pub few_numbers : l.number_room < 2 ^ 63

-- there is room for all items
Grew-measured : (is : List Item) (m : Measured) (l : Listing) → m ≡ fold measure (record { cells = 0; numbers = 0 }) is → HasMeasuredRoom m l →
    All HasSmallNumbers is → Grew l (fold record_item l is) (map head_of is) (flat_map item_numbers is)
Grew-measured is m l measured room small =
    let none : Measured = record { cells = 0; numbers = 0 } in
    let cells_are : m.cells ≡ (fold measure none is).cells = ap (λ n. n.cells) measured in
    let numbers_are : m.numbers ≡ (fold measure none is).numbers = ap (λ n. n.numbers) measured in
    let no_head : length l.heads ≡ 0 = ap length room.heads in
    let no_number : length l.numbers ≡ 0 = ap length room.numbers in
    let few_cells : (fold measure none is).cells < 2 ^ 64 - 1 = omega arith in
    let few_numbers : (fold measure none is).numbers < 2 ^ 64 - 1 = omega arith in
    let all_cells = measure-cells is none few_cells in
    let all_numbers = measure-numbers is none few_numbers in
    Grew-items is l small (omega arith) (omega arith)

-- what a walk over pieces of one group each has recorded
pub record IsRecorded (pieces : List Piece) (heads : List Head) (ns : List ℕ) : Type 0 where
  pub takes : total heads ≤ length ns
  pub are_cells : recorded_cells heads ns ≡ cells pieces

-- from two lists of such groups, what the first walk measured and an empty listing of that room, to slices of its heads and numbers after the second walk
pub IsRecorded-walk : (pieces : List Piece) (first second : List ℕ) (measured : Measured) (start end : Listing) (heads : List Head) (ns : List ℕ) →
    length pieces ≤ 16777215 → first ≡ numbers 0 (length pieces) → second ≡ numbers 0 (length pieces) →
    measured ≡ fold measure (record { cells = 0; numbers = 0 }) (map (item_of first) (cells pieces)) → HasMeasuredRoom measured start →
    end ≡ fold record_item start (map (item_of second) (cells pieces)) → heads ≡ end.heads → ns ≡ end.numbers → IsRecorded pieces heads ns
IsRecorded-walk pieces first second measured start end heads ns few first_own second_own measures room walked are_heads are_numbers =
    let groups = numbers 0 (length pieces) in
    let is = map (item_of groups) (cells pieces) in
    let as_many : group_count groups ≡ length pieces = group_count-numbers (length pieces) in
    let measures_own = measures ∙ ap (λ gs. fold measure (record { cells = 0; numbers = 0 }) (map (item_of gs) (cells pieces))) first_own in
    let walked_own : end ≡ fold record_item start is = walked ∙ ap (λ gs. fold record_item start (map (item_of gs) (cells pieces))) second_own in
    let grew = Grew-measured is measured start measures_own room (small-items groups (cells pieces) (omega arith)) in
    let hs : heads ≡ map head_of is = are_heads ∙ ap (λ l. l.heads) walked_own ∙ grew.heads ∙ ap (λ z. z ++ map head_of is) room.heads in
    let ks : ns ≡ flat_map item_numbers is = are_numbers ∙ ap (λ l. l.numbers) walked_own ∙ grew.numbers ∙ ap (λ z. z ++ flat_map item_numbers is) room.numbers in
    let taken : total heads ≡ length ns = ap total hs ∙ total-items is ∙ ap length (sym ks) in
    record {
      takes = omega arith;
      are_cells = ap (λ z. recorded_cells z ns) hs ∙ ap (λ z. recorded_cells (map head_of is) z) ks ∙ recorded-items is ∙ cells-from_items pieces;
    }
