-- The file's digits of a name's line, after the kind's, are those of its text. A fact is shown by the name of its predicate, where that is a name.
use Rattle.std.proofs.Common.{Bool, true, false, not, cond, ◌==◌, List, [], ◌∷◌, ◌≡◌, refl, sym, ap, ◌∙◌, ℕ, ◌+◌, ◌/◌, ◌<◌, ◌≤◌, arith, length, get_or, take}
use Rattle.std.proofs.Common.{drop, None, Option, Some}
use Rattle.std.proofs.lemmas.Option.{slice_get-get_or, slice_get_past}
use Rattle.std.specs.List.{slice_get, before_first, position_or_len}
use Rattle.std.proofs.Math.Numerals.{one-add}
use Rattle.work.specs.Layout.{NAME-COUNT, NAMES, PREDICATE-COUNT, PREDICATES}
use Rattle.format.specs.Bytes.{ascii}
use Rattle.format.specs.Lines.{Line, closed, unclosed, in_front, lines}
use Rattle.meaning.specs.Messages.{name_of, or_mark, or_fact, fact_name}
use Rattle.format.specs.Schema.{get}
use Rattle.format.proofs.Hex.{hexes, hex_decoded}
use Rattle.sigla_hex.proofs.Line.{head_line, decoded_line, decoded_at}
use Rattle.sigla_hex.proofs.Bytes.{From, more, from, line_takes}
use Rattle.tree.specs.Stands.{no_predicate}
use Rattle.writer.specs.Writes.{Writes, WritesText, hex_of}
use Rattle.writer.proofs.Writing.{writes_as, writes_moves}
use Rattle.messages.specs.Shown.{Sight, Seen, Shows, NothingNeeded, name_text, quoted_text, fact_text}
use Rattle.messages.proofs.Showing.{shows_as, shows_text}

-- ---- To LF

abbrev is_LF : ℕ → Bool
is_LF b = b == 10

before_LF : (b : ℕ) (s : List ℕ) → before_first is_LF (b ∷ s) ≡ cond (is_LF b) [] (b ∷ before_first is_LF s)
before_LF b s = go (is_LF b)
  where
    go : (t : Bool) → take (cond (not t) (1 + position_or_len is_LF s) 0) (b ∷ s) ≡ cond t [] (b ∷ before_first is_LF s)
    go true = refl
    go false = rw one-add

-- ---- A line's digits

hexes_are : (s : List ℕ) → hexes s ≡ hex_of s
unfolding hexes hex_of
hexes_are [] = refl
hexes_are (b ∷ s) = rw (hexes_are s)

no_line : {A : Type 0} {s t : List ℕ} → unclosed s ≡ closed t → A
no_line e = let z : ◌≡◌ {A = ℕ} 0 1 = cc in absurd (omega arith)

to_LF : (s t : List ℕ) → head_line (lines s) ≡ closed t → before_first is_LF s ≡ t
unfolding lines in_front
to_LF [] t e = no_line e
to_LF (b ∷ s) t e = rw (before_LF b s) (test (λ u q. to_LF s u q) (is_LF b) e)
  where
    on : (ls : List Line) → ((u : List ℕ) → head_line ls ≡ closed u → before_first is_LF s ≡ u) → head_line (in_front b ls) ≡ closed t
        → b ∷ before_first is_LF s ≡ t
    on [] ih e = no_line e
    on (closed u ∷ ls) ih e = let z : b ∷ u ≡ t = cc in rw (ih u refl) z
    on (unclosed u ∷ ls) ih e = no_line e

    test : ((u : List ℕ) → head_line (lines s) ≡ closed u → before_first is_LF s ≡ u) → (c : Bool)
        → head_line (elim c [ true ↦ closed [] ∷ lines s | false ↦ in_front b (lines s) ]) ≡ closed t → cond c [] (b ∷ before_first is_LF s) ≡ t
    test ih true e = cc
    test ih false e = on (lines s) ih e

line_digits : (f : List ℕ) (i : ℕ) (s : List ℕ) → decoded_at f i ≡ Some s → before_first is_LF (drop i f) ≡ hex_of s
line_digits f i s e = go (head_line (lines (drop i f))) refl e
  where
    go : (l : Line) → head_line (lines (drop i f)) ≡ l → decoded_line l ≡ Some s → before_first is_LF (drop i f) ≡ hex_of s
    go (closed t) q e = to_LF (drop i f) t q ∙ (hex_decoded t s e).is ∙ hexes_are s
    go (unclosed t) q e = cc

-- ---- Names

module _ {f w : List ℕ} {v : Sight} (S : Seen f w v) where
  counted : get_or w NAME-COUNT 0 ≡ length v.names
  counted = S.schema.names ∙ sym S.schema.texts

  digits_are : (x : ℕ) → x < get_or w NAME-COUNT 0 → before_first is_LF (drop (get_or w (NAMES + x) 0 / 512 + 2) f) ≡ hex_of (name_text x v)
  unfolding name_of or_mark
  digits_are x h =
      let l : x < length v.names = omega (arith, counted) in
      let line = (line_takes f _ _ (S.schema.name x l)).is in
      rw (slice_get-get_or v.names x [] l) (go (from f (get_or w (NAMES + x) 0 / 512) _ line))
    where
      go : {t : List ℕ} → From f (get_or w (NAMES + x) 0 / 512) (2 ∷ t) → before_first is_LF (drop (get_or w (NAMES + x) 0 / 512 + 2) f) ≡ hex_of t
      go {t} (more p q) = line_digits f (get_or w (NAMES + x) 0 / 512 + 2) t q

  no_name : (x : ℕ) → get_or w NAME-COUNT 0 ≤ x → 63 ∷ [] ≡ name_text x v
  unfolding name_of or_mark
  no_name x h = rw (slice_get_past v.names x (omega (arith, counted)))

module _ {f w out : List ℕ} {at x : ℕ} {out' : List ℕ} {r : Option ℕ} {n : ℕ} (c : n ≡ get_or w NAME-COUNT 0) where
  pub name_shown : x < n → {i : ℕ} → i ≡ get_or w (NAMES + x) 0 / 512 + 2 → Writes out at (before_first is_LF (drop i f)) out' r
      → Shows f w out at NothingNeeded (name_text x) out' r
  name_shown h e g = record { is = λ v S o b. writes_as (digits_are S x (omega arith)) (rw e at g); moves = writes_moves g }

  pub name_marked : n ≤ x → WritesText out at (63 ∷ []) out' r → Shows f w out at NothingNeeded (name_text x) out' r
  name_marked h g = shows_as (λ v S o. no_name S x (omega arith)) (shows_text g)

-- ---- Facts

module _ {f w : List ℕ} {v : Sight} (S : Seen f w v) (p : ℕ) where
  predicate_name : p < get_or w PREDICATE-COUNT 0 → fact_name v.names v.schema p ≡ slice_get v.names (get_or w (PREDICATES + p) 0 / 131072)
  unfolding fact_name get
  predicate_name h =
      let l : p < length v.schema.predicates = omega (arith, S.schema.predicates) in
      rw (slice_get-get_or v.schema.predicates p no_predicate l, fact_name) (ap (slice_get v.names) (S.schema.predicate p l).name)

  no_predicate_lem : get_or w PREDICATE-COUNT 0 ≤ p → fact_name v.names v.schema p ≡ None
  unfolding fact_name get
  no_predicate_lem h = rw (slice_get_past v.schema.predicates p (omega (arith, S.schema.predicates)), fact_name)

  fact_named : p < get_or w PREDICATE-COUNT 0 → (x : ℕ) → x ≡ get_or w (PREDICATES + p) 0 / 131072 → x < get_or w NAME-COUNT 0 → quoted_text x v ≡ fact_text p v
  unfolding or_fact name_of or_mark
  fact_named h x e l =
      let i = slice_get-get_or v.names x [] (omega (arith, counted S)) in
      rw (predicate_name h, ← e, i)

  fact_unnamed : p < get_or w PREDICATE-COUNT 0 → (x : ℕ) → x ≡ get_or w (PREDICATES + p) 0 / 131072 → get_or w NAME-COUNT 0 ≤ x
      → ascii "a fact" ≡ fact_text p v
  unfolding or_fact ascii
  fact_unnamed h x e l = rw (predicate_name h, ← e, slice_get_past v.names x (omega (arith, counted S)))

  fact_unknown : get_or w PREDICATE-COUNT 0 ≤ p → ascii "a fact" ≡ fact_text p v
  unfolding or_fact ascii
  fact_unknown h = rw (no_predicate_lem h)

module _ {f w out : List ℕ} {at p : ℕ} {out' : List ℕ} {r : Option ℕ} {m : ℕ} (c : m ≡ get_or w PREDICATE-COUNT 0) where
  pub fact_past : m ≤ p → WritesText out at (ascii "a fact") out' r → Shows f w out at NothingNeeded (fact_text p) out' r
  fact_past h g = shows_as (λ v S o. fact_unknown S p (omega arith)) (shows_text g)

  module _ (h : p < m) {x n : ℕ} (e : x ≡ get_or w (PREDICATES + p) 0 / 131072) (d : n ≡ get_or w NAME-COUNT 0) where
    pub fact_shown : x < n → Shows f w out at NothingNeeded (quoted_text x) out' r → Shows f w out at NothingNeeded (fact_text p) out' r
    fact_shown l g = shows_as (λ v S o. fact_named S p (omega arith) x e (omega arith)) g

    pub fact_bare : n ≤ x → WritesText out at (ascii "a fact") out' r → Shows f w out at NothingNeeded (fact_text p) out' r
    fact_bare l g = shows_as (λ v S o. fact_unnamed S p (omega arith) x e (omega arith)) (shows_text g)
