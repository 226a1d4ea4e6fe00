-- `characters` counts what the grammar says. The first ranges of the alternatives rise, so a first byte fits one
-- alternative at most and the function can choose by it; reading on, the ranges that are still owed are used up one by
-- one.
use Rattle.std.proofs.Common.{◌≡◌, refl, ap, ◌∙◌, ◌↔◌, ℕ, suc, ◌≤◌, ◌<◌, Bool, true, false, List, [], ◌∷◌, ◌++◌, leb, lit≤, arith}
use Rattle.std.proofs.lemmas.Bool.{and_parts, and_from, and_right, leb-true, le-leb, lt-leb}
use Rattle.text.specs.Star.{none as nil, more}
use Rattle.text.specs.Utf8.{Range, ◌to◌, InRange, FitsRanges, end, then, OneOf, this, later, inside, following, one_more, count, utf8_char, Character, Text}
use Rattle.text.specs.Utf8.{characters}
use Rattle.std.specs.Prelude.{None, Option, Some}

pub range : (low high b : ℕ) → low ≤ b → b ≤ high → InRange (low to high) b
range low high b l h = record { low = l; high = h }

pub inside_in : (r : Range) (b : ℕ) → inside r b ≡ true → InRange r b
inside_in r b h = let p = and_parts _ _ h in record { low = leb-true _ _ p.0; high = leb-true _ _ p.1 }

pub in_inside : (r : Range) (b : ℕ) → InRange r b → inside r b ≡ true
in_inside r b h = and_from _ _ (le-leb _ _ h.low) (le-leb _ _ h.high)

-- no alternative is empty, and each starts above the one before it
data Rising : ℕ → List (List Range) → Type 0 where
  top : {l : ℕ} → Rising l []
  up : {l : ℕ} {r : Range} {rs : List Range} {g : List (List Range)} → l ≤ r.low → r.low ≤ r.high → Rising (suc r.high) g → Rising l ((r ∷ rs) ∷ g)

rises : Rising 0 utf8_char
rises = search (top, up, lit≤) depth 30 fits 5000

above : {l b : ℕ} {g : List (List Range)} {s : List ℕ} → Rising l g → OneOf g (b ∷ s) → l ≤ b
above (up from some_byte rest) (this (then i f)) = omega (arith, i.low)
above (up from some_byte rest) (later o) = omega (arith, above rest o)
above {b = b} {s = s} (top {l = l}) h = elim h [ ]

-- an alternative has a first byte
filled : {l : ℕ} {g : List (List Range)} → Rising l g → OneOf g [] → ⊥
filled (up from some_byte rest) (later o) = filled rest o
filled (top {l = l}) h = elim h [ ]
filled (up {l = l} {r = r} {rs = rs} {g = g} from some_byte rest) (this h) = elim h [ ]

pub not_empty : Character [] → ⊥
not_empty c = filled rises c

-- past the alternatives that end below b
passed : (r : Range) (rs : List Range) (g : List (List Range)) (b : ℕ) → r.high < b → following ((r ∷ rs) ∷ g) b ≡ following g b
unfolding following
passed r rs g b h = rw (and_right (leb r.low b) _ (lt-leb b r.high h), following)

-- the alternative that the first byte chooses, and what the bytes after it fit
record Chosen (g : List (List Range)) (b : ℕ) (s : List ℕ) : Type 0 where
  ranges : List Range
  is : following g b ≡ Some ranges
  fit : FitsRanges ranges s

chosen : {l b : ℕ} {g : List (List Range)} {s : List ℕ} → Rising l g → OneOf g (b ∷ s) → Chosen g b s
unfolding following
chosen {b = b} (up from some_byte rest) (this (then {r = r} {rs = rs} i f)) =
    record { ranges = rs; is = rw (in_inside r b i, following); fit = f }
chosen {b = b} (up {r = r} {rs = rs} {g = g} from some_byte rest) (later o) =
    let c = chosen rest o in
    record { ranges = c.ranges; is = passed r rs g b (above rest o) ∙ c.is; fit = c.fit }
chosen {b = b} {s = s} (top {l = l}) h = elim h [ ]

-- the bytes that are owed are read, and the count goes on after them
read : (g : List (List Range)) {rs : List Range} {a : List ℕ} (t : List ℕ) → FitsRanges rs a → count g rs (a ++ t) ≡ count g [] t
unfolding count
read g t end = refl
read g t (then {r = r} {b = b} i f) = rw (in_inside r b i, count) (read g t f)

pub step : (a t : List ℕ) → Character a → characters (a ++ t) ≡ one_more (characters t)
unfolding characters count
step [] t o = absurd (not_empty o)
step (b ∷ a) t o =
    let c = chosen rises o in
    rw (c.is, count) (ap one_more (read utf8_char t c.fit))

forth : {s : List ℕ} {n : ℕ} → Text s n → characters s ≡ Some n
unfolding characters count
forth nil = refl
forth (more {a = a} {t = t} c r) = step a t c ∙ ap one_more (forth r)

-- what a count of n says: the owed bytes come first, and a text of n characters follows
data Split (rs : List Range) : List ℕ → ℕ → Type 0 where
  split : {a t : List ℕ} {n : ℕ} → FitsRanges rs a → Text t n → Split rs (a ++ t) n

begins : (g : List (List Range)) (b : ℕ) {rs : List Range} {a : List ℕ} → following g b ≡ Some rs → FitsRanges rs a → OneOf g (b ∷ a)
unfolding following
begins [] b e f = cc
begins ([] ∷ g) b e f = later (begins g b e f)
begins ((r ∷ rs) ∷ g) b {rs = x} {a = a} e f = go (λ h. begins g b h f) (inside r b) refl
  where
    go : (following g b ≡ Some x → OneOf g (b ∷ a)) → (i : Bool) → inside r b ≡ i → OneOf ((r ∷ rs) ∷ g) (b ∷ a)
    go ih true q =
        let h : Some rs ≡ Some x = rw (q, following) at e in
        let same : x ≡ rs = cc in
        this (then (inside_in r b q) (rw same at f))
    go ih false q = later (ih (rw (q, following) at e))

-- a first byte before a split, and a byte that was owed
start : {b : ℕ} {rs : List Range} {s : List ℕ} {n : ℕ} → following utf8_char b ≡ Some rs → Split rs s n → Split [] (b ∷ s) (suc n)
start {b} q (split f t) = split end (more (begins utf8_char b q f) t)

join : {r : Range} {b : ℕ} {rs : List Range} {s : List ℕ} {n : ℕ} → InRange r b → Split rs s n → Split (r ∷ rs) (b ∷ s) n
join i (split f t) = split (then i f) t

back : (rs : List Range) (s : List ℕ) (n : ℕ) → count utf8_char rs s ≡ Some n → Split rs s n
unfolding count
back [] [] n e = let z : n ≡ 0 = cc in rw z (split end nil)
back (r ∷ rs) [] n e = cc
back [] (b ∷ s) n e = first (λ rs m h. back rs s m h) (following utf8_char b) refl
  where
    rest : ((rs : List Range) (m : ℕ) → count utf8_char rs s ≡ Some m → Split rs s m)
        → (rs : List Range) → following utf8_char b ≡ Some rs → (o : Option ℕ) → count utf8_char rs s ≡ o → one_more o ≡ Some n → Split [] (b ∷ s) n
    rest ih rs q None p h = cc
    rest ih rs q (Some m) p h = let z : n ≡ suc m = cc in rw z (start q (ih rs m p))

    first : ((rs : List Range) (m : ℕ) → count utf8_char rs s ≡ Some m → Split rs s m)
        → (o : Option (List Range)) → following utf8_char b ≡ o → Split [] (b ∷ s) n
    first ih None q = cc (rw (q, count) at e)
    first ih (Some rs) q = rest ih rs q (count utf8_char rs s) refl (rw (q, count) at e)
back (r ∷ rs) (b ∷ s) n e = go (λ h. back rs s n h) (inside r b) refl
  where
    go : (count utf8_char rs s ≡ Some n → Split rs s n) → (i : Bool) → inside r b ≡ i → Split (r ∷ rs) (b ∷ s) n
    go ih true q = join (inside_in r b q) (ih (rw (q, count) at e))
    go ih false q = cc (rw (q, count) at e)

-- nothing is owed at the start
whole : {s : List ℕ} {n : ℕ} → Split [] s n → Text s n
whole (split end t) = t

-- The function and the grammar say the same.
pub counts : (s : List ℕ) (n : ℕ) → Text s n ↔ (characters s ≡ Some n)
unfolding characters count
counts s n = (forth, λ e. whole (back [] s n e))
