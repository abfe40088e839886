-- What is known of the file beside, from writing to writing.
use Rattle.std.proofs.Common.{◌≡◌, ◌⊎◌, inl, inr, ℕ, ◌+◌, ◌≤◌, Bool, true, false, List, [], ◌∷◌, ◌++◌, map, take, length, Option, None, Some, refl, sym, ap, ◌∙◌, subst, arith, append-nil, append_assoc}
use Rattle.std.proofs.Math.Logic.{∥∥₁_map, ∥∥₁_elim}
use Rattle.std.proofs.lemmas.List.{length-append, take-append-le}
use Rattle.std.proofs.Math.Seq.{drop-append_seam}
use Rattle.std.proofs.Props.{props}
use Rattle.std.specs.Io.KnownBytes.{Appends, Keeps, WriteAppends}
use Rattle.std.specs.Prelude.{Result, Ok, Err, IsErr, IsOk, OnOk, IfOk}
use Rattle.sf_journal.specs.declared.heads.FileSum.{FileSum}
use Rattle.sha2.specs.Sha256.{sha256}
use Rattle.sha2.specs.Hashers.{Holds256}
use Rattle.sha2.specs.declared.Sha256.{Sha256}
use Rattle.sf_folder.specs.declared.names.Name.TheVariants.{StoreBeside}
use Rattle.sf_folder.specs.Calls.{Call, Begins, Writes, IsFrontOf, Does, Tries}
use Rattle.sf_journal.specs.Records.{head_of, head_with}
use Rattle.sf_folder.specs.Saves.{joined, pieces_calls, writing_calls, finishing_calls, Saves, TriesToSave}
use Rattle.sf_folder.proofs.Chains.{does-then, tries-then}
use Rattle.sf_folder.specs.Besides.{bytes_of_call, pieces_behind, written_behind, IsWriting, Continues, known_pieces, HasSum, Wrote, TriesToWrite}

bytes-pieces : (pieces : List (List ℕ)) → map bytes_of_call (map (Writes StoreBeside) pieces) ≡ pieces
bytes-pieces [] = refl
bytes-pieces (piece ∷ pieces) = ap (λ l. piece ∷ l) (bytes-pieces pieces)

pieces-of : (before : List Call) (pieces : List (List ℕ)) → pieces_behind before (before ++ pieces_calls pieces) ≡ pieces
pieces-of before pieces = ap (map bytes_of_call) (drop-append_seam before (pieces_calls pieces)) ∙ bytes-pieces pieces

-- the same, of calls that are known to be so
pieces-made : (before calls : List Call) (pieces : List (List ℕ)) → calls ≡ before ++ pieces_calls pieces → pieces_behind before calls ≡ pieces
pieces-made before calls pieces is = ap (pieces_behind before) is ∙ pieces-of before pieces

joined-append : (pieces : List (List ℕ)) (piece : List ℕ) → joined (pieces ++ piece ∷ []) ≡ joined pieces ++ piece
joined-append [] piece = append-nil piece
joined-append (p ∷ pieces) piece = ap (λ l. p ++ l) (joined-append pieces piece) ∙ sym (append_assoc p (joined pieces) piece)

map-append : (pieces : List (List ℕ)) (piece : List ℕ) → map (Writes StoreBeside) (pieces ++ piece ∷ []) ≡ map (Writes StoreBeside) pieces ++ Writes StoreBeside piece ∷ []
map-append [] piece = refl
map-append (p ∷ pieces) piece = ap (λ l. Writes StoreBeside p ∷ l) (map-append pieces piece)

-- one more piece
more : (before calls : List Call) (pieces : List (List ℕ)) (piece : List ℕ) → calls ≡ before ++ pieces_calls pieces
    → calls ++ Writes StoreBeside piece ∷ [] ≡ before ++ pieces_calls (pieces ++ piece ∷ [])
more before calls pieces piece is =
    ap (λ l. l ++ Writes StoreBeside piece ∷ []) is ∙ append_assoc before (pieces_calls pieces) (Writes StoreBeside piece ∷ [])
    ∙ ap (λ l. before ++ l) (sym (map-append pieces piece))

-- a front of one writing is nothing, or a writing of some bytes
front-of-one : (made : List Call) (bytes : List ℕ) → IsFrontOf made (Writes StoreBeside bytes ∷ []) → (made ≡ []) ⊎ ((front : List ℕ) × (made ≡ Writes StoreBeside front ∷ []))
front-of-one [] bytes h = inl refl
front-of-one (call ∷ []) bytes (inl h) = inr (bytes, ap (λ c. c ∷ []) h.0)
front-of-one (call ∷ next ∷ made) bytes (inl h) = absurd h.1
front-of-one (call ∷ made) bytes (inr h) = inr (h.0.0, ap (λ c. c ∷ made) h.0.3 ∙ ap (λ l. Writes StoreBeside h.0.0 ∷ l) h.1)

-- fewer bytes than were written are the same bytes once there are more
same-front : (pieces : List (List ℕ)) (piece : List ℕ) (size : ℕ) → size ≤ length (joined pieces) → take size (joined (pieces ++ piece ∷ [])) ≡ take size (joined pieces)
same-front pieces piece size low = ap (take size) (joined-append pieces piece) ∙ take-append-le size (joined pieces) piece low

longer : (pieces : List (List ℕ)) (piece : List ℕ) (size : ℕ) → size ≤ length (joined pieces) → size ≤ length (joined (pieces ++ piece ∷ []))
longer pieces piece size low =
    let e : length (joined (pieces ++ piece ∷ [])) ≡ length (joined pieces) + length piece = ap length (joined-append pieces piece) ∙ length-append (joined pieces) piece in
    omega (arith, low, e)

-- a writing failed: what it wrote isn't counted
tried : (before old new : List Call) (hasher : Sha256) (size : ℕ) (bytes : List ℕ) (made : List Call)
    → IsWriting before old hasher size false → new ≡ old ++ made → IsFrontOf made (Writes StoreBeside bytes ∷ []) → IsWriting before new hasher size true
tried before old new hasher size bytes made w is front = at (front-of-one made bytes front)
  where
    at : (made ≡ []) ⊎ ((front : List ℕ) × (made ≡ Writes StoreBeside front ∷ [])) → IsWriting before new hasher size true
    at (inl none) = record {
      pieces = w.pieces;
      made = is ∙ ap (λ l. old ++ l) none ∙ append-nil old ∙ w.made;
      front = w.front;
      whole = λ h. cc;
      hashed = w.hashed;
    }
    at (inr some) = record {
      pieces = w.pieces ++ some.0 ∷ [];
      made = is ∙ ap (λ l. old ++ l) some.1 ∙ more before old w.pieces some.0 w.made;
      front = longer w.pieces some.0 size w.front;
      whole = λ h. cc;
      hashed = subst (Holds256 hasher) (sym (same-front w.pieces some.0 size w.front)) w.hashed;
    }

pub tries-writing : (known old new : Option (List Call)) (hasher : Sha256) (size : ℕ) (bytes : List ℕ)
    → Tries old new (Writes StoreBeside bytes ∷ []) → Continues known old hasher size false → Continues known new hasher size true
tries-writing None old new hasher size bytes t w = tt
tries-writing (Some before) None new hasher size bytes t w = absurd w
tries-writing (Some before) (Some old) None hasher size bytes t w = absurd t.1
tries-writing (Some before) (Some old) (Some new) hasher size bytes t w = tried before old new hasher size bytes t.0 w t.1 t.2

-- what is counted is known by the calls
counted : (before calls : List Call) (hasher : Sha256) (size : ℕ) (failed : Bool) → (w : IsWriting before calls hasher size failed)
    → take size (joined (pieces_behind before calls)) ≡ take size (joined w.pieces)
counted before calls hasher size failed w = ap (λ l. take size (joined l)) (pieces-made before calls w.pieces w.made)

pub tries-keeps : (known old new : Option (List Call)) (hasher : Sha256) (size : ℕ) (bytes : List ℕ)
    → Tries old new (Writes StoreBeside bytes ∷ []) → Continues known old hasher size false → Keeps (written_behind known old size) (written_behind known new size)
tries-keeps None old new hasher size bytes t w = tt
tries-keeps (Some before) None new hasher size bytes t w = absurd w
tries-keeps (Some before) (Some old) None hasher size bytes t w = absurd t.1
tries-keeps (Some before) (Some old) (Some new) hasher size bytes t w = at (front-of-one t.0 bytes t.2)
  where
    from : (pieces : List (List ℕ)) → new ≡ before ++ pieces_calls pieces → take size (joined pieces) ≡ take size (joined w.pieces)
        → take size (joined (pieces_behind before new)) ≡ take size (joined (pieces_behind before old))
    from pieces made same = ap (λ l. take size (joined l)) (pieces-made before new pieces made) ∙ same ∙ sym (counted before old hasher size false w)

    at : (t.0 ≡ []) ⊎ ((front : List ℕ) × (t.0 ≡ Writes StoreBeside front ∷ []))
        → take size (joined (pieces_behind before new)) ≡ take size (joined (pieces_behind before old))
    at (inl none) = from w.pieces (t.1 ∙ ap (λ l. old ++ l) none ∙ append-nil old ∙ w.made) refl
    at (inr some) = from (w.pieces ++ some.0 ∷ []) (t.1 ∙ ap (λ l. old ++ l) some.1 ∙ more before old w.pieces some.0 w.made) (same-front w.pieces some.0 size w.front)

take-all : (xs : List ℕ) (n : ℕ) → n ≡ length xs → take n xs ≡ xs
take-all xs n is = ap (λ m. take m xs) is ∙ all xs
  where
    all : (ys : List ℕ) → take (length ys) ys ≡ ys
    all [] = refl
    all (y ∷ ys) = ap (λ l. y ∷ l) (all ys)

-- all bytes of a writing are counted
length-more : (pieces : List (List ℕ)) (bytes : List ℕ) (size size' : ℕ) → size ≡ length (joined pieces) → size' ≡ size + length bytes
    → size' ≡ length (joined (pieces ++ bytes ∷ []))
length-more pieces bytes size size' all is =
    is ∙ ap (λ n. n + length bytes) all ∙ sym (length-append (joined pieces) bytes) ∙ ap length (sym (joined-append pieces bytes))

pub does-writing : (known old new : Option (List Call)) (hasher hasher' : Sha256) (size size' : ℕ) (bytes : List ℕ)
    → Does old new (Writes StoreBeside bytes ∷ []) → size' ≡ size + length bytes → ((m : List ℕ) → Holds256 hasher m → Holds256 hasher' (m ++ bytes))
    → Continues known old hasher size false → Continues known new hasher' size' false
does-writing None old new hasher hasher' size size' bytes d is updated w = tt
does-writing (Some before) None new hasher hasher' size size' bytes d is updated w = absurd w
does-writing (Some before) (Some old) None hasher hasher' size size' bytes d is updated w = absurd d
does-writing (Some before) (Some old) (Some new) hasher hasher' size size' bytes d is updated w =
    let all : size' ≡ length (joined (w.pieces ++ bytes ∷ [])) = length-more w.pieces bytes size size' (w.whole refl) is in
    let text : take size' (joined (w.pieces ++ bytes ∷ [])) ≡ take size (joined w.pieces) ++ bytes =
    take-all (joined (w.pieces ++ bytes ∷ [])) size' all ∙ joined-append w.pieces bytes ∙ ap (λ l. l ++ bytes) (sym (take-all (joined w.pieces) size (w.whole refl))) in
    record {
      pieces = w.pieces ++ bytes ∷ [];
      made = d ∙ more before old w.pieces bytes w.made;
      front = omega (arith, all);
      whole = λ h. all;
      hashed = subst (Holds256 hasher') (sym text) (updated (take size (joined w.pieces)) w.hashed);
    }

pub does-appends : (known old new : Option (List Call)) (hasher : Sha256) (size size' : ℕ) (bytes : List ℕ)
    → Does old new (Writes StoreBeside bytes ∷ []) → size' ≡ size + length bytes
    → Continues known old hasher size false → Appends (written_behind known old size) (written_behind known new size') bytes
does-appends None old new hasher size size' bytes d is w = tt
does-appends (Some before) None new hasher size size' bytes d is w = absurd w
does-appends (Some before) (Some old) None hasher size size' bytes d is w = absurd d
does-appends (Some before) (Some old) (Some new) hasher size size' bytes d is w =
    ap (λ l. take size' (joined l)) (pieces-made before new (w.pieces ++ bytes ∷ []) (d ∙ more before old w.pieces bytes w.made))
    ∙ take-all (joined (w.pieces ++ bytes ∷ [])) size' (length-more w.pieces bytes size size' (w.whole refl) is) ∙ joined-append w.pieces bytes
    ∙ ap (λ l. l ++ bytes) (sym (take-all (joined w.pieces) size (w.whole refl)) ∙ sym (counted before old hasher size false w))

-- facts on known calls, of which there is one proof at most
Keeps-prop : (old new : Option (List ℕ)) → IsProp (Keeps old new)
Keeps-prop None new = hlevel props
Keeps-prop (Some xs) None = hlevel props
Keeps-prop (Some xs) (Some ys) = hlevel props

Appends-prop : (old new : Option (List ℕ)) (bytes : List ℕ) → IsProp (Appends old new bytes)
Appends-prop None new bytes = hlevel props
Appends-prop (Some xs) None bytes = hlevel props
Appends-prop (Some xs) (Some ys) bytes = hlevel props

Call-set : IsSet Call
Call-set = hlevel props

Does-prop : (old new : Option (List Call)) (calls : List Call) → IsProp (Does old new calls)
Does-prop None new calls = hlevel props
Does-prop (Some old) None calls = hlevel props
Does-prop (Some old) (Some new) calls = hlevel (props, Call-set)

HasSum-prop : (known calls : Option (List Call)) (size : ℕ) (digest : List ℕ) → IsProp (HasSum known calls size digest)
HasSum-prop None calls size digest = hlevel props
HasSum-prop (Some before) calls size digest = hlevel (props, Does-prop (Some before) calls (pieces_calls (known_pieces (Some before) calls)))

-- the calls, and the sum of what was written
pub has-sum : (known calls : Option (List Call)) (hasher : Sha256) (size : ℕ) (digest : List ℕ) → ((m : List ℕ) → Holds256 hasher m → digest ≡ sha256 m)
    → ∥ Continues known calls hasher size false ∥₁ → HasSum known calls size digest
has-sum known calls hasher size digest hashes w = ∥∥₁_elim w (HasSum-prop known calls size digest) (at known calls)
  where
    at : (known calls : Option (List Call)) → Continues known calls hasher size false → HasSum known calls size digest
    at None calls w = tt
    at (Some before) None w = absurd w
    at (Some before) (Some calls) w =
        let pieces : pieces_behind before calls ≡ w.pieces = pieces-made before calls w.pieces w.made in
        let text : take size (joined w.pieces) ≡ joined w.pieces = take-all (joined w.pieces) size (w.whole refl) in (
          w.made ∙ ap (λ l. before ++ pieces_calls l) (sym pieces),
          w.whole refl ∙ ap (λ l. length (joined l)) (sym pieces),
          hashes (take size (joined w.pieces)) w.hashed ∙ ap sha256 (text ∙ ap joined (sym pieces)),
        )

-- nothing was written yet
pub begun : (known calls : Option (List Call)) (hasher : Sha256) → known ≡ calls → Holds256 hasher [] → ∥ Continues known calls hasher 0 false ∥₁
begun known calls hasher is holds = ∣ subst (λ k. Continues k calls hasher 0 false) (sym is) (at calls) ∣₁
  where
    at : (calls : Option (List Call)) → Continues calls calls hasher 0 false
    at None = tt
    at (Some calls) = record { pieces = []; made = sym (append-nil calls); front = omega arith; whole = λ h. refl; hashed = holds }

-- the bytes of a source were written
pub wrote : (known begun new : Option (List Call)) (bytes : List ℕ) (size : ℕ) (digest : List ℕ)
    → known ≡ begun → Appends (written_behind known begun 0) (written_behind known new size) bytes → HasSum known new size digest
    → Wrote bytes size digest known new
wrote None begun new bytes size digest d a s = tt
wrote (Some before) None new bytes size digest d a s = cc
wrote (Some before) (Some begun) None bytes size digest d a s = absurd s.0
wrote (Some before) (Some begun) (Some new) bytes size digest d a s =
    let pieces = pieces_behind before new in
    let text : joined pieces ≡ bytes = sym (take-all (joined pieces) size s.1) ∙ a in
    (s.1 ∙ ap length text, s.2 ∙ ap sha256 text, pieces, text, s.0)

-- a front of all calls
pub front-all : (calls : List Call) → IsFrontOf calls calls
front-all [] = tt
front-all (call ∷ calls) = inl (refl, front-all calls)

-- something was written
pub tries-to-write : (known new : Option (List Call)) (hasher : Sha256) (size : ℕ) (failed : Bool) → ∥ Continues known new hasher size failed ∥₁ → TriesToWrite known new
tries-to-write known new hasher size failed w =
    let calls = pieces_calls (known_pieces known new) in
    (known_pieces known new, (calls, ∥∥₁_elim w (Does-prop known new calls) (at known new), front-all calls))
  where
    at : (known new : Option (List Call)) → Continues known new hasher size failed → Does known new (pieces_calls (known_pieces known new))
    at None new w = tt
    at (Some before) None w = absurd w
    at (Some before) (Some new) w = w.made ∙ ap (λ l. before ++ pieces_calls l) (sym (pieces-made before new w.pieces w.made))

-- the same of facts that are only known to hold
pub tries-writing-known : (known old new : Option (List Call)) (hasher : Sha256) (size : ℕ) (bytes : List ℕ)
    → Tries old new (Writes StoreBeside bytes ∷ []) → ∥ Continues known old hasher size false ∥₁ → ∥ Continues known new hasher size true ∥₁
tries-writing-known known old new hasher size bytes t w = ∥∥₁_map w (tries-writing known old new hasher size bytes t)

pub tries-keeps-known : (known old new : Option (List Call)) (hasher : Sha256) (size : ℕ) (bytes : List ℕ)
    → Tries old new (Writes StoreBeside bytes ∷ []) → ∥ Continues known old hasher size false ∥₁ → Keeps (written_behind known old size) (written_behind known new size)
tries-keeps-known known old new hasher size bytes t w =
    ∥∥₁_elim w (Keeps-prop (written_behind known old size) (written_behind known new size)) (tries-keeps known old new hasher size bytes t)

pub does-writing-known : (known old new : Option (List Call)) (hasher hasher' : Sha256) (size size' : ℕ) (bytes : List ℕ)
    → Does old new (Writes StoreBeside bytes ∷ []) → size' ≡ size + length bytes → ((m : List ℕ) → Holds256 hasher m → Holds256 hasher' (m ++ bytes))
    → ∥ Continues known old hasher size false ∥₁ → ∥ Continues known new hasher' size' false ∥₁
does-writing-known known old new hasher hasher' size size' bytes d is updated w = ∥∥₁_map w (does-writing known old new hasher hasher' size size' bytes d is updated)

pub does-appends-known : (known old new : Option (List Call)) (hasher : Sha256) (size size' : ℕ) (bytes : List ℕ)
    → Does old new (Writes StoreBeside bytes ∷ []) → size' ≡ size + length bytes
    → ∥ Continues known old hasher size false ∥₁ → Appends (written_behind known old size) (written_behind known new size') bytes
does-appends-known known old new hasher size size' bytes d is w =
    ∥∥₁_elim w (Appends-prop (written_behind known old size) (written_behind known new size') bytes) (does-appends known old new hasher size size' bytes d is)

pub take-whole : (xs : List ℕ) → take (length xs) xs ≡ xs
take-whole xs = take-all xs (length xs) refl

-- an error keeps what was written
pub err-keeps : {E : Type 0} (old new : Option (List ℕ)) (r : Result ℕ E) (bytes : List ℕ) → IsErr r → Keeps old new → WriteAppends old new r bytes
err-keeps old new (Ok n) bytes is keeps = cc
err-keeps old new (Err e) bytes is keeps = keeps

-- a writing that went well has written the bytes of its source
pub finished : {E : Type 0} (known old new : Option (List Call)) (bytes : List ℕ) (hasher : Sha256) (size : ℕ) (failed : Bool) (sum : Result FileSum E) (written : Result (Unit {0}) E)
    → known ≡ old → OnOk written (Appends (written_behind known old 0) (written_behind known new size) bytes) → ∥ Continues known new hasher size failed ∥₁
    → IfOk sum (λ file. IsOk written × (failed ≡ false) × (file.size ≡ size) × ((m : List ℕ) → Holds256 hasher m → file.digest ≡ sha256 m))
    → IfOk sum (λ file. Wrote bytes file.size file.digest old new)
finished known old new bytes hasher size failed (Err e) written is appends w ends = tt
finished known old new bytes hasher size failed (Ok file) (Err e) is appends w ends = let no : false ≡ true = ends.0 in cc
finished known old new bytes hasher size failed (Ok file) (Ok u) is appends w ends =
    subst (λ k. Wrote bytes file.size file.digest k new) is
    (wrote known old new bytes file.size file.digest is (subst (λ n. Appends (written_behind known old 0) (written_behind known new n) bytes) (sym ends.2) appends)
    (has-sum known new hasher file.size file.digest ends.3
    (subst (λ n. ∥ Continues known new hasher n false ∥₁) (sym ends.2) (subst (λ f. ∥ Continues known new hasher size f ∥₁) ends.1 w))))

-- a save whose writing went wrong
pub tries-writing-to-save : (a b c : Option (List Call)) (bytes : List ℕ) → Does a b (Begins StoreBeside ∷ []) → TriesToWrite b c → TriesToSave bytes a c
tries-writing-to-save a b c bytes begins t = inl (t.0, tries-then a b c (Begins StoreBeside ∷ []) (pieces_calls t.0) begins t.1)

-- the head of the new journal
new-head : (bytes digest : List ℕ) (size : ℕ) (pieces : List (List ℕ)) → size ≡ length bytes → digest ≡ sha256 bytes → joined pieces ≡ bytes
    → head_with size digest ≡ head_of (joined pieces)
new-head bytes digest size pieces long hashed text =
    ap (λ n. head_with n digest) (long ∙ ap length (sym text)) ∙ ap (λ d. head_with (length (joined pieces)) d) (hashed ∙ ap sha256 (sym text))

-- a save whose finish went wrong
pub tries-finishing-to-save : (a b c d : Option (List Call)) (bytes : List ℕ) (size : ℕ) (digest : List ℕ) → Does a b (Begins StoreBeside ∷ []) → Wrote bytes size digest b c
    → Tries c d (finishing_calls (head_with size digest)) → TriesToSave bytes a d
tries-finishing-to-save None None c d bytes size digest begins w t = inl ([], ([], tt, tt))
tries-finishing-to-save (Some a) None c d bytes size digest begins w t = absurd begins
tries-finishing-to-save a (Some b) c d bytes size digest begins w t =
    inr (
      w.2,
      w.3,
      tries-then a c d (writing_calls w.2) (finishing_calls (head_of (joined w.2)))
          (does-then a (Some b) c (Begins StoreBeside ∷ []) (pieces_calls w.2) begins w.4)
          (subst (λ h. Tries c d (finishing_calls h)) (new-head bytes digest size w.2 w.0 w.1 w.3) t),
    )

-- a save that went well
pub does-save : (a b c d : Option (List Call)) (bytes : List ℕ) (size : ℕ) (digest : List ℕ) → Does a b (Begins StoreBeside ∷ []) → Wrote bytes size digest b c
    → Does c d (finishing_calls (head_with size digest)) → Saves bytes size digest a d
does-save None b c d bytes size digest begins w t = tt
does-save (Some a) None c d bytes size digest begins w t = absurd begins
does-save (Some a) (Some b) c d bytes size digest begins w t = (
  w.0,
  w.1,
  w.2,
  w.3,
  does-then (Some a) c d (writing_calls w.2) (finishing_calls (head_of (joined w.2)))
      (does-then (Some a) (Some b) c (Begins StoreBeside ∷ []) (pieces_calls w.2) begins w.4)
      (subst (λ h. Does c d (finishing_calls h)) (new-head bytes digest size w.2 w.0 w.1 w.3) t),
)
