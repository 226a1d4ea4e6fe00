-- The run left the lines of the diagnostics at the slice's start. The lines of the nodes are written behind them, and the two blocks
-- change places: what then stands at the start is the answer.
use Rattle.std.proofs.Common.{◌≡◌, ℕ, ◌+◌, ◌-◌, ◌≤◌, ◌<◌, List, [], ◌∷◌, ◌++◌, map, length, get_or, take, drop, None, Option, Some, refl, sym, ap, ◌∙◌, arith}
use Rattle.std.proofs.Common.{length-append, take_at}
use Rattle.std.proofs.lemmas.List.{drop_at}
use Rattle.unification.specs.Ty as Tree
use Rattle.work.specs.Layout.{FULL}
use Rattle.cells.specs.Stands.{Rows}
use Rattle.format.specs.File.{Described}
use Rattle.meaning.specs.Check.{Checker, Typed, goes, typed, checked, reversed, zonked}
use Rattle.meaning.specs.Messages.{message_text}
use Rattle.format.specs.Bytes.{bytes₄, hex_line}
use Rattle.meaning.specs.Answer.{node_lines, diagnostic_lines, unused_lines, answer_lines}
use Rattle.state.specs.Runs.{Runs}
use Rattle.state.specs.Lines.{place_w, Lines, within, beyond, Told}
use Rattle.writer.specs.Writes.{placed, Writes}
use Rattle.writer.proofs.Writing.{writes_as, writes_then, writes_full, writes_to, writes_over}
use Rattle.answer.specs.Lines.{WritesNodeLines, WritesLines, WritesUnusedLines, WritesAnswer}

-- ---- Two blocks, a before b, and b before a
module _ {out a b mid : List ℕ} {end : ℕ} (there : take (length a) out ≡ a) (room : length a ≤ length out) (f : Writes out (length a) b mid (Some end)) where
  ends : (end ≡ length a + length b) × (end ≤ length out)
  ends = writes_to f refl

  mid_is : mid ≡ (a ++ b) ++ drop end out
  unfolding placed
  mid_is =
      let m : mid ≡ placed (length a) b out = (f.fits (omega (arith, ends.0, ends.1))).1 in
      m ∙ rw (there, ends.0) refl

  pub exchanged_writes : {out' : List ℕ} → length out' ≡ length out → out' ≡ (drop (length a) (take end mid) ++ take (length a) (take end mid)) ++ drop end mid
      → Writes out 0 (b ++ a) out' (Some end)
  unfolding placed
  exchanged_writes {out'} long e =
      let sum : end ≡ 0 + length (b ++ a) = omega (arith, ends.0, length-append b a) in
      let all : length (a ++ b) ≡ end = omega (arith, ends.0, length-append a b) in
      let both : take end mid ≡ a ++ b = rw mid_is (take_at (a ++ b) (drop end out) end all) in
      let rest : drop end mid ≡ drop end out = rw mid_is (drop_at (a ++ b) (drop end out) end all) in
      record {
        fits = λ h. (ap Some sum, e ∙ rw (both, rest, drop_at a b (length a) refl, take_at a b (length a) refl, sum));
        over = λ h. absurd (omega (arith, sum, ends.1));
        long = long;
      }

full_writes : {out : List ℕ} (a b : List ℕ) → length out < length a + length b → {out' : List ℕ} → length out' ≡ length out → Writes out 0 (b ++ a) out' None
full_writes a b h long = let n : length (b ++ a) ≡ length b + length a = length-append b a in
    record { fits = λ l. absurd (omega (arith, n)); over = λ l. refl; long = long }

-- ---- The whole
abbrev answered : ℕ → Checker → Typed
answered ceiling c = record {
  tys = map (zonked c.state) c.state.tys;
  diagnostics = reversed c.diagnostics [];
  unused = reversed c.unused [];
  visits = ceiling - c.state.left;
}

typed_is : (ceiling : ℕ) (ty : Tree.Ty) (c : Checker) (t : Typed) → checked ceiling (goes ty c) ≡ typed t → answered ceiling c ≡ t
unfolding checked
typed_is ceiling ty c t q = let p : typed (answered ceiling c) ≡ typed t = q in cc

abbrev lines_of : Described → Typed → List ℕ
lines_of d t = node_lines 0 t.tys ++ diagnostic_lines (message_text d.names d.schema) t.diagnostics

abbrev nodes : Checker → List ℕ
nodes c = node_lines 0 (map (zonked c.state) c.state.tys)

abbrev reports : Described → Checker → List ℕ
reports d c = diagnostic_lines (message_text d.names d.schema) (reversed c.diagnostics [])

answers : {w out out' : List ℕ} {r : Option ℕ} → length out' ≡ length out
    → ((f : List ℕ) (T : Rows) (d : Described) (c : Checker) → Runs f w T d c → Lines w out (reports d c)
    → Writes out 0 (nodes c ++ reports d c) out' r) → WritesLines w out out' r
answers long go = record { is = λ f T d c R L ceiling ty t q. writes_as (ap (lines_of d) (typed_is ceiling ty c t q)) (go f T d c R L.lines); long = long }

module _ {w out : List ℕ} {full : ℕ} (p : full ≡ get_or w FULL 0) where
  pub answer_over : ¬ (full ≡ 0) → WritesLines w out out None
  answer_over some = answers refl (λ f T d c R L. go d c L)
    where
      go : (d : Described) (c : Checker) → Lines w out (reports d c) → Writes out 0 (nodes c ++ reports d c) out None
      go d c (within q e l t) = absurd (some (p ∙ q))
      go d c (beyond q l) = full_writes (reports d c) (nodes c) (omega arith) refl

  module _ (free : full ≡ 0) {at : ℕ} (place : at ≡ place_w w) where
    pub answer_past : length out < at → WritesLines w out out None
    answer_past h = answers refl (λ f T d c R L. go d c L)
      where
        go : (d : Described) (c : Checker) → Lines w out (reports d c) → Writes out 0 (nodes c ++ reports d c) out None
        go d c (within q e l t) = absurd (omega (arith, place, e))
        go d c (beyond q l) = absurd (omega (arith, p, free, q))

    module _ {mid : List ℕ} {r : Option ℕ} (g : WritesNodeLines w out at mid r) where
      module _ {f : List ℕ} {T : Rows} {d : Described} (c : Checker) (R : Runs f w T d c)
          (e : place_w w ≡ length (reports d c)) (l : length (reports d c) ≤ length out) where
        written : Writes out (length (reports d c)) (nodes c) mid r
        written = rw (place ∙ e) at (g.is T c.state R.holds (R.stands.nodes ∙ sym R.nodes) (omega (arith, place, e)))

      pub answer_full : r ≡ None → WritesLines w out mid None
      answer_full z = answers g.moves.long (λ f T d c R L. go c R L)
        where
          go : {f : List ℕ} {T : Rows} {d : Described} (c : Checker) → Runs f w T d c → Lines w out (reports d c)
              → Writes out 0 (nodes c ++ reports d c) mid None
          go {d = d} c R (within q e l t) = full_writes (reports d c) (nodes c) (writes_over (written c R e l) z) g.moves.long
          go c R (beyond q l) = absurd (omega (arith, p, free, q))

      module _ {end : ℕ} (z : r ≡ Some end) where
        pub answer_exchanged : {out' : List ℕ} → length out' ≡ length out → out' ≡ (drop at (take end mid) ++ take at (take end mid)) ++ drop end mid
            → WritesLines w out out' (Some end)
        answer_exchanged {out'} long s = answers long (λ f T d c R L. go c R L)
          where
            go : {f : List ℕ} {T : Rows} {d : Described} (c : Checker) → Runs f w T d c → Lines w out (reports d c)
                → Writes out 0 (nodes c ++ reports d c) out' (Some end)
            go c R (within q e l t) = exchanged_writes t l (rw z at (written c R e l)) long (rw (place ∙ e) at s)
            go c R (beyond q l) = absurd (omega (arith, p, free, q))

-- ---- After them the lines of the entries that left unmarked, and the line of the visits
module _ {f w out mid : List ℕ} {r : Option ℕ} (g : WritesLines w out mid r) (visits : ℕ) where
  module _ {n : ℕ} {out₁ : List ℕ} {r₁ : Option ℕ} (e : r ≡ Some n) (u : WritesUnusedLines f w mid n out₁ r₁) where
    with_unused_lem : (T : Rows) (d : Described) (c : Checker) → Runs f w T d c → Told d w out c 0 → (ceiling : ℕ) (ty : Tree.Ty) (t : Typed)
        → checked ceiling (goes ty c) ≡ typed t
        → Writes out 0 (lines_of d t ++ unused_lines t.unused) out₁ r₁
    with_unused_lem T d c R L ceiling ty t q =
        let a = g.is f T d c R L ceiling ty t q in
        let same : reversed c.unused [] ≡ t.unused = ap (λ (x : Typed). x.unused) (typed_is ceiling ty c t q) in
        writes_then a e (writes_as (ap unused_lines same) (u.is T d c R (omega (arith, (writes_to a e).1, a.long))))

    pub answer_visits : {m : ℕ} {out' : List ℕ} {r' : Option ℕ} → r₁ ≡ Some m → Writes out₁ m (hex_line (9 ∷ bytes₄ visits)) out' r'
        → WritesAnswer f w out visits out' r'
    unfolding answer_lines
    answer_visits z h = record {
      is = λ T d c R L ceiling ty t q v. writes_as (ap (λ n. (lines_of d t ++ unused_lines t.unused) ++ hex_line (9 ∷ bytes₄ n)) v)
          (writes_then (with_unused_lem T d c R L ceiling ty t q) z h);
      long = h.long ∙ u.long ∙ g.long;
    }

    pub answer_unused_none : r₁ ≡ None → WritesAnswer f w out visits out₁ None
    unfolding answer_lines
    answer_unused_none z = record {
      is = λ T d c R L ceiling ty t q v. writes_full (with_unused_lem T d c R L ceiling ty t q) z (hex_line (9 ∷ bytes₄ t.visits));
      long = u.long ∙ g.long;
    }

  pub answer_none : r ≡ None → WritesAnswer f w out visits mid None
  unfolding answer_lines
  answer_none e = record {
    is = λ T d c R L ceiling ty t q v. writes_full (writes_full (g.is f T d c R L ceiling ty t q) e (unused_lines t.unused)) refl
        (hex_line (9 ∷ bytes₄ t.visits));
    long = g.long;
  }
