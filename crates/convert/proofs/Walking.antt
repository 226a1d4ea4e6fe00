-- The lines of a file one after the other: each is a frame's, and what follows it is the others'.
use mathlib.Core.Bool.{Bool, true, false}
use mathlib.Core.List.{List, [], ◌∷◌, ◌++◌, map, flat_map, head-eq_of_cons-eq, tail-eq_of_cons-eq}
use mathlib.Core.Path.{◌≡◌, refl, sym, ap, subst, ◌∙◌}
use Prim.Native.Nat.{ℕ, ◌<◌, ◌≤◌}
use native.Mathlib.Omega.{arith}
use lib.Dec.{leb, ltb}
use borrow.Author.Tests.{ltb-true, ltb-false}
use lib.ListN.{length, take, drop}
use Rattle.format.specs.Lines.{lines, max_bytes, some_bytes, bytes_of}
use Rattle.format.specs.Frame.{Edition, narrow, wide, Frame}
use Rattle.format.specs.SoFar.{malformed, frames, said_by, said}
use Rattle.format.specs.Conditions.{any_of}
use Rattle.format.specs.All.{All}
use Rattle.format.specs.Bytes.{hex_line}
use Rattle.format.specs.Writing.{written, file_of, FrameFits, Writable}
use Rattle.format.proofs.Hex.{decoded_hex}
use Rattle.format.proofs.Bytes.{written_bytes}
use Rattle.format.proofs.Written.{line_of, at_most_lem, said_line}
use Rattle.format.proofs.Tests.{cases}
use Rattle.sigla_hex.proofs.Line.{lines_at_end}
use Rattle.frames.specs.Promises.{BytesAt, MalformedAt}
use Rattle.writer.specs.Writes.{Writes}
use Rattle.writer.proofs.Writing.{Goes, goes_start, goes_next, goes_full, goes_done}
use Rattle.editions.specs.Converted.{predicates}
use Rattle.convert.specs.Lines.{other, LinesAre, ConvertsLine, ConvertsLines, NamesFrom, SomeFrom}
use Rattle.std.specs.Prelude.{None, Option, Some}

-- ---- One line

-- The line at a place is the first frame's, and the next line starts the others'.
pub record First (e : Edition) (f line : List ℕ) (n next : ℕ) (fs : List Frame) : Type 0 where
  pub first : Frame
  pub rest : List Frame
  pub are : fs ≡ first ∷ rest
  pub bytes : take n line ≡ written e first
  pub writable : Writable e first
  pub later : LinesAre e (drop next f) rest

bytes_of_lem : (e : Edition) (g : Frame) → Writable e g → bytes_of (line_of e g) ≡ Some (written e g)
unfolding bytes_of some_bytes written
bytes_of_lem e g w = ap some_bytes (decoded_hex (written e g) (written_bytes e g w.fits)) ∙ at_most_lem max_bytes (written e g) w.short

pub step : (e : Edition) {f line : List ℕ} {at n next : ℕ} → BytesAt f at line n next → (fs : List Frame) → LinesAre e (drop at f) fs → First e f line n next fs
step e {f} {line} {at} {n} {next} h fs a = go fs (sym (ap (map (said e)) h.splits) ∙ a)
  where
    made : (g : Frame) (gs : List Frame) → said e h.first ≡ frames g → LinesAre e (drop next f) gs → First e f line n next (g ∷ gs)
    made g gs q l =
        let i = said_line e h.first g q in
        let same : Some (take n line) ≡ Some (written e g) = sym h.bytes ∙ ap bytes_of i.is ∙ bytes_of_lem e g i.writable in
        record { first = g; rest = gs; are = refl; bytes = cc; writable = i.writable; later = l }

    go : (fs : List Frame) → map (said e) (h.first ∷ lines (drop next f)) ≡ map frames fs → First e f line n next fs
    go [] q = let z : ◌≡◌ {A = ℕ} 0 1 = cc in absurd (omega arith)
    go (g ∷ gs) q = made g gs (head-eq_of_cons-eq q) (tail-eq_of_cons-eq q)

-- no line of frames is malformed
pub no_bad : (e : Edition) {f : List ℕ} {at : ℕ} → MalformedAt f at → (fs : List Frame) → LinesAre e (drop at f) fs → ⊥
unfolding said said_by
no_bad e {f} {at} b fs a = go fs (sym (ap (map (said e)) b.splits) ∙ a)
  where
    go : (fs : List Frame) → map (said e) (b.first ∷ b.rest) ≡ map frames fs → ⊥
    go [] q = let z : ◌≡◌ {A = ℕ} 0 1 = cc in omega arith
    go (g ∷ gs) q =
        let c : malformed ≡ frames g = sym (ap (said_by e) b.bytes) ∙ head-eq_of_cons-eq q in
        let z : ◌≡◌ {A = ℕ} 0 1 = cc in
        omega arith

pub at_end_lem : (e : Edition) (f : List ℕ) (at : ℕ) → length f ≤ at → (fs : List Frame) → LinesAre e (drop at f) fs → fs ≡ []
at_end_lem e f at l [] a = refl
at_end_lem e f at l (g ∷ gs) a =
    let c : [] ≡ map frames (g ∷ gs) = sym (ap (map (said e)) (lines_at_end f at l)) ∙ a in
    let z : ◌≡◌ {A = ℕ} 0 1 = cc in
    absurd (omega arith)

-- ---- All lines, written

-- So far: the frames from here on are still to be written.
pub record Left (e : Edition) (f out₀ : List ℕ) (at : ℕ) (out : List ℕ) (to : ℕ) (fs : List Frame) : Type 0 where
  pub rest : List Frame
  pub are : LinesAre e (drop at f) rest
  pub fit : All (FrameFits narrow) rest
  pub goes : Goes out₀ 0 (file_of (other e) fs) out to (file_of (other e) rest)

pub record Converting (e : Edition) (f out₀ : List ℕ) (at : ℕ) (out : List ℕ) (to : ℕ) : Type 0 where
  pub long : length out ≡ length out₀
  pub left : (fs : List Frame) → LinesAre e f fs → All (FrameFits narrow) fs → Left e f out₀ at out to fs

pub converting_start : (e : Edition) (f out : List ℕ) → Converting e f out 0 out 0
converting_start e f out = record {
  long = refl;
  left = λ fs a h. record
      { rest = fs; are = a; fit = h; goes = goes_start out 0 (file_of (other e) fs) (file_of (other e) fs) (omega arith) refl };
}

module _ (e : Edition) {f out₀ : List ℕ} {at : ℕ} {out : List ℕ} {to : ℕ} (c : Converting e f out₀ at out to) where
  pub converting_bad : MalformedAt f at → ConvertsLines e f out₀ out None
  converting_bad b = record { is = λ fs a h. let k = c.left fs a h in absurd (no_bad e b k.rest k.are); long = c.long }

  pub converting_done : length f ≤ at → ConvertsLines e f out₀ out (Some to)
  unfolding file_of flat_map
  converting_done l = record {
    is = λ fs a h. let k = c.left fs a h in goes_done k.goes (ap (file_of (other e)) (at_end_lem e f at l k.rest k.are));
    long = c.long;
  }

  module _ {line : List ℕ} {n next : ℕ} (d : BytesAt f at line n next) {out' : List ℕ} {r : Option ℕ} (w : ConvertsLine e out to (take n line) out' r) where
    record Turn (fs : List Frame) : Type 0 where
      rest : List Frame
      are : LinesAre e (drop next f) rest
      fit : All (FrameFits narrow) rest
      text : List ℕ
      goes : Goes out₀ 0 (file_of (other e) fs) out to (text ++ file_of (other e) rest)
      writes : Writes out to text out' r

    turn : (fs : List Frame) → Left e f out₀ at out to fs → Turn fs
    unfolding file_of flat_map
    turn fs k = go k.rest k.fit k.goes (step e d k.rest k.are)
      where
        go : (gs : List Frame) → All (FrameFits narrow) gs → Goes out₀ 0 (file_of (other e) fs) out to (file_of (other e) gs)
            → First e f line n next gs → Turn fs
        go [] h g i = let q = i.are in let z : ◌≡◌ {A = ℕ} 0 1 = cc in absurd (omega arith)
        go (x ∷ gs) h g i =
            let q = i.are in
            let p : x ≡ i.first = head-eq_of_cons-eq q in
            let l : gs ≡ i.rest = tail-eq_of_cons-eq q in
            record {
              rest = gs;
              are = subst (LinesAre e (drop next f)) (sym l) i.later;
              fit = h.1;
              text = hex_line (written (other e) x);
              goes = g;
              writes = w.is x (i.bytes ∙ ap (written e) (sym p)) h.0 g.inside;
            }

    pub converting_next : {m : ℕ} → r ≡ Some m → Converting e f out₀ next out' m
    converting_next q = record {
      long = w.long ∙ c.long;
      left = λ fs a h. let t = turn fs (c.left fs a h) in record
          { rest = t.rest; are = t.are; fit = t.fit; goes = goes_next t.goes t.text (file_of (other e) t.rest) refl t.writes q };
    }

    pub converting_full : r ≡ None → ConvertsLines e f out₀ out' None
    converting_full q = record {
      is = λ fs a h. let t = turn fs (c.left fs a h) in goes_full t.goes t.text (file_of (other e) t.rest) refl t.writes q;
      long = w.long ∙ c.long;
    }

-- ---- Predicates by a number or a higher one

module _ (test : ℕ → Bool) where
  any_first : (ps qs : List ℕ) → any_of test ps ≡ true → any_of test (ps ++ qs) ≡ true
  unfolding any_of
  any_first [] qs h = let z : ◌≡◌ {A = ℕ} 0 1 = cc in absurd (omega arith)
  any_first (p ∷ ps) qs h = cases (test p) (λ q. rw (q, any_of)) (λ q. rw (q, any_of) (any_first ps qs (rw (q, any_of) at h)))

  any_later : (ps qs : List ℕ) → any_of test ps ≡ false → any_of test (ps ++ qs) ≡ any_of test qs
  unfolding any_of
  any_later [] qs h = refl
  any_later (p ∷ ps) qs h = cases (test p)
      (λ q. let c : true ≡ false = sym (rw (q, any_of)) ∙ h in let z : ◌≡◌ {A = ℕ} 0 1 = cc in absurd (omega arith))
      (λ q. rw (q, any_of) (any_later ps qs (rw (q, any_of) at h)))

-- whether there is one is whether there is one from here on
pub record Seeking (f : List ℕ) (least at : ℕ) : Type 0 where
  pub left : (fs : List Frame) → LinesAre wide f fs
      → (rest : List Frame) × LinesAre wide (drop at f) rest × (any_of (leb least) (flat_map predicates fs) ≡ any_of (leb least) (flat_map predicates rest))

pub seeking_start : (f : List ℕ) (least : ℕ) → Seeking f least 0
seeking_start f least = record { left = λ fs a. (fs, a, refl) }

module _ {f : List ℕ} {least at : ℕ} (c : Seeking f least at) where
  abbrev found : List Frame → Bool
  found fs = any_of (leb least) (flat_map predicates fs)

  seeking_bad : MalformedAt f at → SomeFrom f least false
  seeking_bad b = record { is = λ fs a. let k = c.left fs a in absurd (no_bad wide b k.0 k.1) }

  seeking_done : length f ≤ at → SomeFrom f least false
  unfolding flat_map any_of
  seeking_done l = record { is = λ fs a. let k = c.left fs a in sym (k.2 ∙ ap found (at_end_lem wide f at l k.0 k.1)) }

  -- no line stands here
  pub seeking_over : (at < length f → MalformedAt f at) → SomeFrom f least false
  seeking_over b = cases (ltb at (length f)) (λ q. seeking_bad (b (ltb-true at (length f) q))) (λ q. seeking_done (ltb-false at (length f) q))

  module _ {line : List ℕ} {n next : ℕ} (d : BytesAt f at line n next) {r : Bool} (w : NamesFrom (take n line) least r) where
    -- what the line names
    on_line : {fs : List Frame} (i : First wide f line n next fs) → r ≡ any_of (leb least) (predicates i.first)
    on_line i = w.is i.first (i.bytes) i.writable.fits

    pub seeking_next : r ≡ false → Seeking f least next
    unfolding flat_map
    seeking_next q = record {
      left = λ fs a.
          let k = c.left fs a in
          let i = step wide d k.0 k.1 in
          let later = any_later (leb least) (predicates i.first) (flat_map predicates i.rest) (sym (on_line i) ∙ q) in
          (i.rest, i.later, k.2 ∙ ap found i.are ∙ later);
    }

    pub seeking_found : r ≡ true → SomeFrom f least true
    unfolding flat_map
    seeking_found q = record {
      is = λ fs a.
          let k = c.left fs a in
          let i = step wide d k.0 k.1 in
          sym (k.2 ∙ ap found i.are ∙ any_first (leb least) (predicates i.first) (flat_map predicates i.rest) (sym (on_line i) ∙ q));
    }

pub ruleset seeking = (seeking_start, seeking_over, seeking_next, seeking_found)
