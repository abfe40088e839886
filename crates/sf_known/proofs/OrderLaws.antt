-- Dimensions and lists of them in order.
use Rattle.std.proofs.Common.{◌≡◌, refl, ap, sym, ◌∙◌, subst, Bool, true, false, ◌⊎◌, inl, inr, not, List, [], ◌∷◌}
use Rattle.std.proofs.lemmas.Bool.{and_parts}
use Rattle.sf_plane.specs.declared.dim.Dim.{Dim}
use Rattle.sf_plane.specs.declared.dim.Dim.TheVariants as dims
use Rattle.sf_plane.specs.Unions.{greater_dim}
use Rattle.sf_known.specs.Entries.{exceeds, lesser_dim}
use Rattle.sf_known.specs.Known.{AreAtMost, IsAtMost, have_most}

-- ---- dimensions
pub at-most-if : (d e : Dim) → exceeds d e ≡ false → IsAtMost d e
at-most-if dims.Nothing dims.Nothing h = refl
at-most-if dims.Nothing dims.Zero h = refl
at-most-if dims.Nothing dims.One h = refl
at-most-if dims.Nothing dims.Two h = refl
at-most-if dims.Zero dims.Nothing h = absurd cc
at-most-if dims.Zero dims.Zero h = refl
at-most-if dims.Zero dims.One h = refl
at-most-if dims.Zero dims.Two h = refl
at-most-if dims.One dims.Nothing h = absurd cc
at-most-if dims.One dims.Zero h = absurd cc
at-most-if dims.One dims.One h = refl
at-most-if dims.One dims.Two h = refl
at-most-if dims.Two dims.Nothing h = absurd cc
at-most-if dims.Two dims.Zero h = absurd cc
at-most-if dims.Two dims.One h = absurd cc
at-most-if dims.Two dims.Two h = refl

pub above : (x a : Dim) → IsAtMost a (greater_dim x a)
above dims.Nothing dims.Nothing = refl
above dims.Nothing dims.Zero = refl
above dims.Nothing dims.One = refl
above dims.Nothing dims.Two = refl
above dims.Zero dims.Nothing = refl
above dims.Zero dims.Zero = refl
above dims.Zero dims.One = refl
above dims.Zero dims.Two = refl
above dims.One dims.Nothing = refl
above dims.One dims.Zero = refl
above dims.One dims.One = refl
above dims.One dims.Two = refl
above dims.Two dims.Nothing = refl
above dims.Two dims.Zero = refl
above dims.Two dims.One = refl
above dims.Two dims.Two = refl

pub greater-greater : (c d e : Dim) → greater_dim (greater_dim c d) e ≡ greater_dim c (greater_dim d e)
greater-greater dims.Nothing d e = refl
greater-greater dims.Zero dims.Nothing e = refl
greater-greater dims.Zero dims.Zero dims.Nothing = refl
greater-greater dims.Zero dims.Zero dims.Zero = refl
greater-greater dims.Zero dims.Zero dims.One = refl
greater-greater dims.Zero dims.Zero dims.Two = refl
greater-greater dims.Zero dims.One dims.Nothing = refl
greater-greater dims.Zero dims.One dims.Zero = refl
greater-greater dims.Zero dims.One dims.One = refl
greater-greater dims.Zero dims.One dims.Two = refl
greater-greater dims.Zero dims.Two e = refl
greater-greater dims.One dims.Nothing e = refl
greater-greater dims.One dims.Zero dims.Nothing = refl
greater-greater dims.One dims.Zero dims.Zero = refl
greater-greater dims.One dims.Zero dims.One = refl
greater-greater dims.One dims.Zero dims.Two = refl
greater-greater dims.One dims.One dims.Nothing = refl
greater-greater dims.One dims.One dims.Zero = refl
greater-greater dims.One dims.One dims.One = refl
greater-greater dims.One dims.One dims.Two = refl
greater-greater dims.One dims.Two e = refl
greater-greater dims.Two d e = refl

pub greater-same : (d : Dim) → greater_dim d d ≡ d
greater-same dims.Nothing = refl
greater-same dims.Zero = refl
greater-same dims.One = refl
greater-same dims.Two = refl

pub both-at-most : (x a b : Dim) → IsAtMost x b → IsAtMost a b → IsAtMost (greater_dim x a) b
both-at-most x a b h k = greater-greater x a b ∙ ap (greater_dim x) k ∙ h

lesser-is : (m n : Dim) → (lesser_dim m n ≡ m) ⊎ (lesser_dim m n ≡ n)
lesser-is dims.Nothing n = inl refl
lesser-is dims.Zero dims.Nothing = inr refl
lesser-is dims.Zero dims.Zero = inl refl
lesser-is dims.Zero dims.One = inl refl
lesser-is dims.Zero dims.Two = inl refl
lesser-is dims.One dims.Nothing = inr refl
lesser-is dims.One dims.Zero = inr refl
lesser-is dims.One dims.One = inl refl
lesser-is dims.One dims.Two = inl refl
lesser-is dims.Two n = inr refl

-- what is at most two dimensions is at most the lesser one
pub at-most-lesser : (d m n : Dim) → IsAtMost d m → IsAtMost d n → IsAtMost d (lesser_dim m n)
at-most-lesser d m n h j = by_one (lesser-is m n)
  where
    by_one : (lesser_dim m n ≡ m) ⊎ (lesser_dim m n ≡ n) → IsAtMost d (lesser_dim m n)
    by_one (inl e) = subst (IsAtMost d) (sym e) h
    by_one (inr e) = subst (IsAtMost d) (sym e) j

pub same-at-most : (ds : List Dim) → AreAtMost ds ds
same-at-most [] = refl
same-at-most (d ∷ ds) = (greater-same d, same-at-most ds)

pub greater-twice : (d e : Dim) → greater_dim d (greater_dim d e) ≡ greater_dim d e
greater-twice d e = sym (greater-greater d d e) ∙ ap (λ x. greater_dim x e) (greater-same d)

pub through : (c d e : Dim) → IsAtMost c d → IsAtMost d e → IsAtMost c e
through c d e h k = ap (greater_dim c) (sym k) ∙ sym (greater-greater c d e) ∙ ap (λ x. greater_dim x e) h ∙ k

greater-swap : (d e : Dim) → greater_dim d e ≡ greater_dim e d
greater-swap dims.Nothing dims.Nothing = refl
greater-swap dims.Nothing dims.Zero = refl
greater-swap dims.Nothing dims.One = refl
greater-swap dims.Nothing dims.Two = refl
greater-swap dims.Zero dims.Nothing = refl
greater-swap dims.Zero dims.Zero = refl
greater-swap dims.Zero dims.One = refl
greater-swap dims.Zero dims.Two = refl
greater-swap dims.One dims.Nothing = refl
greater-swap dims.One dims.Zero = refl
greater-swap dims.One dims.One = refl
greater-swap dims.One dims.Two = refl
greater-swap dims.Two dims.Nothing = refl
greater-swap dims.Two dims.Zero = refl
greater-swap dims.Two dims.One = refl
greater-swap dims.Two dims.Two = refl

pub at-most-both : (d e : Dim) → IsAtMost d e → IsAtMost e d → d ≡ e
at-most-both d e h k = sym k ∙ greater-swap e d ∙ h

not-true : (b : Bool) → not b ≡ true → b ≡ false
not-true true h = absurd cc
not-true false h = refl

-- what lies between a least and a most that doesn't exceed it is the least
pub entry-known : (l m k : Dim) → IsAtMost l m → IsAtMost m k → not (exceeds k l) ≡ true → l ≡ m
entry-known l m k g h n = at-most-both l m g (through m k l h (at-most-if k l (not-true (exceeds k l) n)))

pub at-most-two : (d : Dim) → IsAtMost d dims.Two
at-most-two dims.Nothing = refl
at-most-two dims.Zero = refl
at-most-two dims.One = refl
at-most-two dims.Two = refl

-- ---- lists of them
pub through-lists : (cs ds es : List Dim) → AreAtMost cs ds → AreAtMost ds es → AreAtMost cs es
through-lists [] ds es g h = subst (λ xs. AreAtMost xs es) g h
through-lists (c ∷ cs) [] es g h = absurd g
through-lists (c ∷ cs) (d ∷ ds) [] g h = absurd h
through-lists (c ∷ cs) (d ∷ ds) (e ∷ es) g h = (through c d e g.0 h.0, through-lists cs ds es g.1 h.1)

pub entries-known : (ls ms ks : List Dim) → AreAtMost ls ms → AreAtMost ms ks → have_most ls ks ≡ true → ls ≡ ms
entries-known [] ms ks g h n = sym g
entries-known (l ∷ ls) [] ks g h n = absurd g
entries-known (l ∷ ls) (m ∷ ms) [] g h n = absurd h
entries-known (l ∷ ls) (m ∷ ms) (k ∷ ks) g h n =
    let parts = and_parts (not (exceeds k l)) (have_most ls ks) n in
    ap (λ x. x ∷ ls) (entry-known l m k g.0 h.0 parts.0) ∙ ap (λ xs. m ∷ xs) (entries-known ls ms ks g.1 h.1 parts.1)
