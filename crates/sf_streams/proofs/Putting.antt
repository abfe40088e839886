-- A text is put piece by piece: how far it has come, and what is left of it.
use Rattle.std.proofs.Common.{◌≡◌, ◌<◌, ◌≤◌, ◌+◌, ℕ, zero, suc, List, [], ◌∷◌, ◌++◌, length, drop, get_or, slice_get, flat_map, Option, Some, Result, OnOk, OnErr, sym, ap, subst, refl, ◌∙◌, append_assoc, append-nil, arith}
use Rattle.std.proofs.lemmas.List.Concat.{flat_map-cons}
use Rattle.std.proofs.lemmas.Result.{on_ok_weaker, on_err_weaker}
use Rattle.std.specs.Io.KnownBytes.{Appends}
use Rattle.std.proofs.KnownBytes.{Appends-trans}
use Rattle.sf_streams.specs.Streams.{Puts, WritesFront}
use Rattle.sf_streams.proofs.SendingLaws.{OnErr-from, Puts-nothing, Puts-then, WritesFront-more, WritesFront-then}

-- a front of the whole text was put, and the rest of it is left
pub record Putting (before now : Option (List ℕ)) (held holds whole rest : List ℕ) : Type 0 where
  pub front : List ℕ
  pub parts : whole ≡ front ++ rest
  pub puts : Puts before now held holds front

pub Putting-start : (written : Option (List ℕ)) (held whole : List ℕ) → Putting written written held held whole whole
Putting-start written held whole = record { front = []; parts = refl; puts = Puts-nothing written held }

-- the next piece was put, by whatever name the call knew it
pub Putting-more : {before mid after : Option (List ℕ)} {h1 h2 h3 whole given : List ℕ} (text rest : List ℕ) → given ≡ text → Putting before mid h1 h2 whole (text ++ rest) → Puts mid after h2 h3 given
    → Putting before after h1 h3 whole rest
Putting-more {mid = mid} {after = after} {h2 = h2} {h3 = h3} text rest same so_far piece = record {
  front = so_far.front ++ text;
  parts = so_far.parts ∙ sym (append_assoc so_far.front text rest);
  puts = Puts-then _ _ _ _ _ _ so_far.front text so_far.puts (subst (Puts mid after h2 h3) same piece);
}

-- what is left, in other words
pub Putting-left : {before now : Option (List ℕ)} {held holds whole rest : List ℕ} (left : List ℕ) → rest ≡ left → Putting before now held holds whole rest → Putting before now held holds whole left
Putting-left {before} {now} {held} {holds} {whole} left same so_far = subst (Putting before now held holds whole) same so_far

-- nothing is left
pub Putting-done : {before now : Option (List ℕ)} {held holds whole : List ℕ} → Putting before now held holds whole [] → Puts before now held holds whole
Putting-done {before} {now} {held} {holds} so_far = subst (Puts before now held holds) (sym (so_far.parts ∙ append-nil so_far.front)) so_far.puts

-- it ended between two pieces
pub Putting-stopped : {before now : Option (List ℕ)} {held holds whole : List ℕ} (rest : List ℕ) → Putting before now held holds whole rest → WritesFront before now (held ++ whole)
Putting-stopped {held = held} {holds = holds} rest so_far = record {
  sent = so_far.puts.sent;
  unsent = holds ++ rest;
  parts = ap (λ (t : List ℕ). held ++ t) so_far.parts ∙ sym (append_assoc held so_far.front rest) ∙ ap (λ (t : List ℕ). t ++ rest) so_far.puts.parts
      ∙ append_assoc so_far.puts.sent holds rest;
  appended = so_far.puts.appended;
}

-- the last piece was put
pub Putting-last : {before mid after : Option (List ℕ)} {h1 h2 h3 whole given : List ℕ} (text : List ℕ) → given ≡ text → Putting before mid h1 h2 whole text → Puts mid after h2 h3 given → Puts before after h1 h3 whole
Putting-last {before} {mid} {after} {h1} {h2} {h3} text same so_far piece =
    subst (Puts before after h1 h3) (sym so_far.parts) (Puts-then before mid after h1 h2 h3 so_far.front text so_far.puts (subst (Puts mid after h2 h3) same piece))

-- the writer broke off within the last piece
last-broken : {before mid after : Option (List ℕ)} {h1 h2 whole given : List ℕ} (text : List ℕ) → given ≡ text → Putting before mid h1 h2 whole text → WritesFront mid after (h2 ++ given)
    → WritesFront before after (h1 ++ whole)
last-broken {before} {mid} {after} {h1} {h2} text same so_far piece =
    subst (λ (t : List ℕ). WritesFront before after (h1 ++ t)) (sym so_far.parts)
    (WritesFront-then before mid after h1 h2 so_far.front text so_far.puts (subst (λ (t : List ℕ). WritesFront mid after (h2 ++ t)) same piece))

-- ---- what calls give

-- the call for the last piece decides
pub ends-put : {T E : Type 0} {before mid : Option (List ℕ)} {h1 h2 whole given : List ℕ} (r : Result T E) (after : Option (List ℕ)) (h3 text : List ℕ) → given ≡ text
    → Putting before mid h1 h2 whole text → OnOk r (Puts mid after h2 h3 given) → OnOk r (Puts before after h1 h3 whole)
ends-put r after h3 text same so_far piece = on_ok_weaker r (λ p. Putting-last text same so_far p) piece

pub ends-broken : {T E : Type 0} {before mid : Option (List ℕ)} {h1 h2 whole given : List ℕ} (r : Result T E) (after : Option (List ℕ)) (text : List ℕ) → given ≡ text
    → Putting before mid h1 h2 whole text → OnErr r (WritesFront mid after (h2 ++ given)) → OnErr r (WritesFront before after (h1 ++ whole))
ends-broken r after text same so_far piece = on_err_weaker r (λ p. last-broken text same so_far p) piece

-- the call for the next piece broke off, and its error is passed on
pub breaks : {T E : Type 0} {before mid after : Option (List ℕ)} {h1 h2 whole given : List ℕ} (r : Result T E) (text rest : List ℕ) → given ≡ text
    → Putting before mid h1 h2 whole (text ++ rest) → WritesFront mid after (h2 ++ given) → OnErr r (WritesFront before after (h1 ++ whole))
breaks {before = before} {mid = mid} {after = after} {h1 = h1} {h2 = h2} r text rest same so_far piece =
    OnErr-from r (last-broken (text ++ rest) refl so_far
    (subst (WritesFront mid after) (append_assoc h2 text rest) (WritesFront-more mid after (h2 ++ text) rest (subst (λ (t : List ℕ). WritesFront mid after (h2 ++ t)) same piece))))

-- the call for the last piece broke off, and its error is passed on
pub breaks-last : {T E : Type 0} {before mid after : Option (List ℕ)} {h1 h2 whole given : List ℕ} (r : Result T E) (text : List ℕ) → given ≡ text
    → Putting before mid h1 h2 whole text → WritesFront mid after (h2 ++ given) → OnErr r (WritesFront before after (h1 ++ whole))
breaks-last r text same so_far piece = OnErr-from r (last-broken text same so_far piece)

-- no memory was found between two pieces
pub stops : {T E : Type 0} {before now : Option (List ℕ)} {held holds whole : List ℕ} (r : Result T E) (rest : List ℕ) → Putting before now held holds whole rest
    → OnErr r (WritesFront before now (held ++ whole))
stops r rest so_far = OnErr-from r (Putting-stopped rest so_far)

-- ---- the whole, where nothing was held before

pub all-sent : {before mid : Option (List ℕ)} (after : Option (List ℕ)) {held holds whole : List ℕ} → held ≡ [] → Puts before mid held holds whole → Appends mid after holds → Appends before after whole
all-sent {before} after {whole = whole} none all last =
    subst (Appends before after) (sym all.parts ∙ ap (λ (t : List ℕ). t ++ whole) none) (Appends-trans _ _ _ _ _ all.appended last)

-- what was held was sent in part
pub some-sent : {T E : Type 0} {before mid after : Option (List ℕ)} {held holds whole : List ℕ} (r : Result T E) → held ≡ [] → Puts before mid held holds whole → WritesFront mid after holds
    → OnErr r (WritesFront before after whole)
some-sent {before = before} {after = after} {whole = whole} r none all last = OnErr-from r (record {
  sent = all.sent ++ last.sent;
  unsent = last.unsent;
  parts = sym (ap (λ (t : List ℕ). t ++ whole) none) ∙ all.parts ∙ ap (λ (t : List ℕ). all.sent ++ t) last.parts ∙ sym (append_assoc all.sent last.sent last.unsent);
  appended = Appends-trans _ _ _ _ _ all.appended last.appended;
})

pub broken-whole : {T E : Type 0} {held : List ℕ} (r : Result T E) (before after : Option (List ℕ)) (whole : List ℕ) → held ≡ [] → OnErr r (WritesFront before after (held ++ whole)) → OnErr r (WritesFront before after whole)
broken-whole r before after whole none broken = subst (λ (t : List ℕ). OnErr r (WritesFront before after (t ++ whole))) none broken

-- ---- loops

-- what is left from a place on begins with the item there
pub left-at : {X : Type 0} (f : X → List ℕ) (xs : List X) (i : ℕ) (x : X) → slice_get xs i ≡ Some x → flat_map f (drop i xs) ≡ f x ++ flat_map f (drop (i + 1) xs)
left-at {X} f xs i x there =
    let next : suc i ≡ i + 1 = omega arith in
    begins xs i there ∙ ap (λ (n : ℕ). f x ++ flat_map f (drop n xs)) next
  where
    begins : (xs : List X) (i : ℕ) → slice_get xs i ≡ Some x → flat_map f (drop i xs) ≡ f x ++ flat_map f (drop (suc i) xs)
    begins [] i there = absurd cc
    begins (y ∷ ys) zero there = let same : y ≡ x = cc in flat_map-cons f y ys ∙ ap (λ z. f z ++ flat_map f ys) same
    begins (y ∷ ys) (suc i) there = begins ys i there

-- nothing is left from the end on
pub left-none : {X : Type 0} (f : X → List ℕ) (xs : List X) (i : ℕ) → length xs ≤ i → flat_map f (drop i xs) ≡ []
left-none f [] zero past = refl
left-none f [] (suc i) past = refl
left-none f (x ∷ xs) zero past = absurd (omega (arith, past))
left-none f (x ∷ xs) (suc i) past = left-none f xs i (omega (arith, past))

-- the same of the item that a loop over a slice has
pub left-item : {X : Type 0} (f : X → List ℕ) (xs : List X) (i : ℕ) (x : X) → i < length xs → x ≡ get_or xs i x → flat_map f (drop i xs) ≡ f x ++ flat_map f (drop (i + 1) xs)
left-item f xs i x below is = left-at f xs i x (there xs i x below ∙ ap Some (sym is))
  where
    there : {X : Type 0} (xs : List X) (i : ℕ) (d : X) → i < length xs → slice_get xs i ≡ Some (get_or xs i d)
    there [] i d below = absurd (omega (arith, below))
    there (x ∷ xs) zero d below = refl
    there (x ∷ xs) (suc i) d below = there xs i d (omega (arith, below))
