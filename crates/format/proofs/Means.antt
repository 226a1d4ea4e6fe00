-- A line says exactly what `Means` says. A line that decodes to bytes is their writing, so its kind is told by the first byte, and a frame is
-- read from its own bytes and from no others (Written.antt); one that does not decode is odd or has another character.
use mathlib.Core.List.{List, [], ◌∷◌, ◌++◌, append-nil, head-eq_of_cons-eq, tail-eq_of_cons-eq}
use mathlib.Core.Logic.{◌⊎◌, inl, inr, ◌↔◌}
use mathlib.Core.Path.{◌≡◌, refl, sym, ap, subst, ◌∙◌}
use Prim.Native.Nat.{ℕ, ◌*◌, ◌%◌, ◌<◌, ◌≤◌}
use native.Mathlib.Omega.{arith}
use lib.Dec.{eqb, leb}
use lib.ListN.{length}
use borrow.Author.Tests.{eqb-false, ne_eqb, leb-true, leb-false, lt-leb}
use Rattle.text.specs.Utf8.{one_more}
use Rattle.format.specs.Lines.{Line, closed, unclosed, lines, position, digits, digit, pair, decoded, max_bytes, at_most, some_bytes, bytes_of}
use Rattle.format.specs.Frame.{Edition, Kind, kind_byte, kind_of, Frame, frame_kind, frame_of}
use Rattle.format.specs.SoFar.{Said, malformed, unknown_kind, no_frame, frames, said_of, said_in, said_by, said}
use Rattle.format.specs.All.{All, Any, Absent}
use Rattle.format.specs.Bytes.{hex_line}
use Rattle.format.specs.Writing.{Byte, as_content, written, Writable}
use Rattle.format.specs.Means.{Malformed, empty, odd, other_character, over, without_lf, WrittenAs, Means, is_malformed_lem, is_unknown_lem, is_no_frame_lem}
use Rattle.format.specs.Means.{is_frame_lem}
use Rattle.format.proofs.Tests.{cases}
use Rattle.format.proofs.Hex.{hexes, line_hexes, decoded_hex, hex_no_LF, Hex, hex_decoded}
use Rattle.format.proofs.Lines.{lines_closed}
use Rattle.format.proofs.Bytes.{written_bytes}
use Rattle.format.proofs.Written.{byte_kind, kind_byte_lem, frame_back, frame_forth, at_most_lem, says, said_line}
use Rattle.std.specs.Prelude.{None, Option, Some}

-- ---- Lines that do not decode

abbrev Other : List ℕ → Type 0
Other s = Any (λ c. Absent c digits) s

no_place : (c : ℕ) (l : List ℕ) → position (eqb c) l ≡ None → Absent c l
unfolding position
no_place c [] e = tt
no_place c (a ∷ l) e = cases (eqb c a)
    (λ q. let h : Some 0 ≡ None = rw (q, position) at e in let z : ◌≡◌ {A = ℕ} 0 1 = cc in absurd (omega arith))
    (λ q. (eqb-false c a q, no_place c l (left (position (eqb c) l) (rw (q, position) at e))))
  where
    left : (o : Option ℕ) → one_more o ≡ None → o ≡ None
    left None h = refl
    left (Some n) h = let z : ◌≡◌ {A = ℕ} 0 1 = cc in absurd (omega arith)

place_none : (c : ℕ) (l : List ℕ) → Absent c l → position (eqb c) l ≡ None
unfolding position
place_none c [] a = refl
place_none c (b ∷ l) a = rw (ne_eqb c b a.0, position) (ap one_more (place_none c l a.1))

no_digit : (c : ℕ) → digit c ≡ None → Absent c digits
unfolding digit
no_digit c e = no_place c digits e

digit_none : (c : ℕ) → Absent c digits → digit c ≡ None
unfolding digit
digit_none c a = place_none c digits a

undecoded : (s : List ℕ) → decoded s ≡ None → (length s % 2 ≡ 1) ⊎ Other s
unfolding decoded pair
undecoded [] e = let z : ◌≡◌ {A = ℕ} 0 1 = cc in absurd (omega arith)
undecoded (h ∷ []) e = inl refl
undecoded (h ∷ l ∷ t) e = go (λ q. undecoded t q) (digit h) refl (digit l) refl (decoded t) refl e
  where
    further : (length t % 2 ≡ 1) ⊎ Other t → (length (h ∷ l ∷ t) % 2 ≡ 1) ⊎ Other (h ∷ l ∷ t)
    further (inl o) = inl (omega (arith, o))
    further (inr o) = inr (inr (inr o))

    go : (decoded t ≡ None → (length t % 2 ≡ 1) ⊎ Other t) → (x : Option ℕ) → digit h ≡ x → (y : Option ℕ) → digit l ≡ y → (z : Option (List ℕ))
        → decoded t ≡ z → pair x y z ≡ None
        → (length (h ∷ l ∷ t) % 2 ≡ 1) ⊎ Other (h ∷ l ∷ t)
    go ih None p y q z r c = inr (inl (no_digit h p))
    go ih (Some v) p None q z r c = inr (inr (inl (no_digit l q)))
    go ih (Some v) p (Some w) q None r c = further (ih r)
    go ih (Some v) p (Some w) q (Some x) r c = let o : ◌≡◌ {A = ℕ} 0 1 = cc in absurd (omega arith)

pair_none : (x y : Option ℕ) → pair x y None ≡ None
unfolding pair
pair_none None y = refl
pair_none (Some v) None = refl
pair_none (Some v) (Some w) = refl

odd_undecoded : (s : List ℕ) → length s % 2 ≡ 1 → decoded s ≡ None
unfolding decoded
odd_undecoded [] e = absurd (omega (arith, e))
odd_undecoded (h ∷ []) e = refl
odd_undecoded (h ∷ l ∷ t) e = ap (pair (digit h) (digit l)) (odd_undecoded t (omega (arith, e))) ∙ pair_none (digit h) (digit l)

other_undecoded : (s : List ℕ) → Other s → decoded s ≡ None
unfolding decoded pair
other_undecoded [] o = absurd o
other_undecoded (h ∷ []) o = refl
other_undecoded (h ∷ l ∷ t) (inl a) = rw (digit_none h a)
other_undecoded (h ∷ l ∷ t) (inr (inl a)) = rw (digit_none l a) (second (digit h))
  where
    second : (x : Option ℕ) → pair x None (decoded t) ≡ None
    second None = refl
    second (Some v) = refl
other_undecoded (h ∷ l ∷ t) (inr (inr o)) = ap (pair (digit h) (digit l)) (other_undecoded t o) ∙ pair_none (digit h) (digit l)

-- ---- Lines that do

hexes_length : (s : List ℕ) → length (hexes s) ≡ 2 * length s
unfolding hexes
hexes_length [] = refl
hexes_length (b ∷ s) = omega (arith, hexes_length s)

one_line : (s : List ℕ) → All Byte s → lines (hex_line s) ≡ closed (hexes s) ∷ []
unfolding lines
one_line s a = ap lines (line_hexes s) ∙ lines_closed (hexes s) [] (hex_no_LF s a)

holds_line : {l : Line} (s : List ℕ) → WrittenAs l s → l ≡ closed (hexes s)
holds_line s h = head-eq_of_cons-eq (sym h.is ∙ one_line s h.each)

holds : (s t : List ℕ) → Hex s t → length t ≤ max_bytes → WrittenAs (closed s) t
holds s t x n = record { is = one_line t x.bytes ∙ ap (λ z. closed z ∷ []) (sym x.is); each = x.bytes; short = n }

module _ (ed : Edition) where
  holds_said : {l : Line} (b : ℕ) (t : List ℕ) → WrittenAs l (b ∷ t) → said ed l ≡ said_in ed (kind_of b) t
  unfolding said said_by bytes_of some_bytes
  holds_said b t h =
      ap (said ed) (holds_line (b ∷ t) h)
      ∙ ap (λ o. said_by ed (some_bytes o)) (decoded_hex (b ∷ t) h.each)
      ∙ ap (said_by ed) (at_most_lem max_bytes (b ∷ t) h.short)

  -- ---- From what is said to what it means

  same_kind : (k : Kind) (f : Frame) → kind_byte (frame_kind f) ≡ kind_byte k → frame_kind f ≡ k
  same_kind k f e = let h : Some (frame_kind f) ≡ Some k = sym (byte_kind (frame_kind f)) ∙ ap kind_of e ∙ byte_kind k in cc

  read_back : (k : Kind) (t : List ℕ) (f : Frame) → Writable ed f → written ed f ≡ kind_byte k ∷ t → frame_of ed k t ≡ Some f
  unfolding written
  read_back k t f w e =
      let kind = same_kind k f (head-eq_of_cons-eq e) in
      ap (λ x. frame_of ed x t) (sym kind) ∙ ap (frame_of ed (frame_kind f)) (sym (tail-eq_of_cons-eq e)) ∙ frame_back ed f w

  written_all : (f : Frame) → Writable ed f → All Byte (written ed f)
  written_all f w = written_bytes ed f w.fits

  meant : (l : Line) → Means ed l (said ed l)
  unfolding said said_by bytes_of some_bytes said_in said_of hexes
  meant (unclosed s) = is_malformed_lem without_lf
  meant (closed s) = go (decoded s) refl
    where
      a_frame : (f : Frame) → said ed (closed s) ≡ frames f → Means ed (closed s) (frames f)
      a_frame f e =
          let i = said_line ed (closed s) f e in
          is_frame_lem f i.writable.fits (record {
            is = one_line (written ed f) (written_all f i.writable) ∙ ap (λ z. z ∷ []) (sym i.is);
            each = written_all f i.writable;
            short = i.writable.short;
          })

      of_kind_lem : (b : ℕ) (t : List ℕ) → WrittenAs (closed s) (b ∷ t) → (o : Option Kind) → kind_of b ≡ o → Means ed (closed s) (said_in ed o t)
      of_kind_lem b t h None q = is_unknown_lem b t h (λ k e. let z : Some k ≡ None = sym (byte_kind k) ∙ ap kind_of e ∙ q in let o : ◌≡◌ {A = ℕ} 0 1 = cc in
          omega arith)
      of_kind_lem b t h (Some k) q = content (frame_of ed k t) refl
        where
          here : WrittenAs (closed s) (kind_byte k ∷ t)
          here = subst (λ x. WrittenAs (closed s) (x ∷ t)) (kind_byte_lem b k q) h

          content : (o : Option Frame) → frame_of ed k t ≡ o → Means ed (closed s) (said_of k o)
          content None r = is_no_frame_lem k t here (λ f fits e. let w : Writable ed f = record
              { fits = fits; short = subst (λ x. length x ≤ max_bytes) (sym e) here.short } in let z : None ≡ Some f = sym r ∙ read_back k t f w e
              in let o : ◌≡◌ {A = ℕ} 0 1 = cc in omega arith)
          content (Some f) r = a_frame f (holds_said b t h ∙ ap (λ x. said_in ed x t) q ∙ ap (said_of k) r)

      go : (o : Option (List ℕ)) → decoded s ≡ o → Means ed (closed s) (said_by ed (some_bytes o))
      go None q = is_malformed_lem (bad (undecoded s q))
        where
          bad : (length s % 2 ≡ 1) ⊎ Other s → Malformed (closed s)
          bad (inl o) = odd o
          bad (inr o) = other_character o
      go (Some []) q = rw (hex_decoded s [] q).is (is_malformed_lem empty)
      go (Some (b ∷ t)) q = cases (leb (length (b ∷ t)) max_bytes)
          (λ r. rw (r, at_most) (of_kind_lem b t (holds s (b ∷ t) (hex_decoded s (b ∷ t) q) (leb-true (length (b ∷ t)) max_bytes r)) (kind_of b) refl))
          (λ r. rw (r, at_most) (is_malformed_lem (over (long (leb-false (length (b ∷ t)) max_bytes r)))))
        where
          long : max_bytes < length (b ∷ t) → 2 * max_bytes < length s
          long m = let n = ap length (hex_decoded s (b ∷ t) q).is ∙ hexes_length (b ∷ t) in omega (arith, n, m)

  -- ---- And back

  took : (k : Kind) (t : List ℕ) (f : Frame) → frame_kind f ≡ k → t ≡ as_content ed f ++ [] → written ed f ≡ kind_byte k ∷ t
  unfolding written
  took k t f p q =
      let first : kind_byte (frame_kind f) ≡ kind_byte k = ap kind_byte p in
      let later : t ≡ as_content ed f = q ∙ append-nil (as_content ed f) in
      cc

  malformed_said : {l : Line} → Malformed l → said ed l ≡ malformed
  unfolding said said_by bytes_of some_bytes decoded
  malformed_said empty = refl
  malformed_said (odd {s = s} e) = ap (λ o. said_by ed (some_bytes o)) (odd_undecoded s e)
  malformed_said (other_character {s = s} o) = ap (λ o. said_by ed (some_bytes o)) (other_undecoded s o)
  malformed_said (over {s = s} m) = go (decoded s) refl
    where
      go : (o : Option (List ℕ)) → decoded s ≡ o → said_by ed (some_bytes o) ≡ malformed
      go None q = refl
      go (Some []) q = refl
      go (Some (b ∷ t)) q =
          let n = ap length (hex_decoded s (b ∷ t) q).is ∙ hexes_length (b ∷ t) in
          rw (lt-leb (length (b ∷ t)) max_bytes (omega (arith, n, m)), at_most)
  malformed_said without_lf = refl

  says_so : {l : Line} {x : Said} → Means ed l x → said ed l ≡ x
  unfolding said_in said_of
  says_so (is_malformed_lem m) = malformed_said m
  says_so (is_unknown_lem b t h n) = holds_said b t h ∙ go (kind_of b) refl
    where
      go : (o : Option Kind) → kind_of b ≡ o → said_in ed o t ≡ unknown_kind
      go None q = refl
      go (Some k) q = absurd (n k (sym (kind_byte_lem b k q)))
  says_so (is_no_frame_lem k t h n) = holds_said (kind_byte k) t h ∙ ap (λ x. said_in ed x t) (byte_kind k) ∙ go (frame_of ed k t) refl
    where
      go : (o : Option Frame) → frame_of ed k t ≡ o → said_of k o ≡ no_frame k
      go None q = refl
      go (Some f) q =
          let r = frame_forth ed k t f h.each.1 q in
          let same : written ed f ≡ kind_byte k ∷ t = took k t f r.kind r.bytes in
          absurd (n f r.fits same)
  says_so (is_frame_lem f fits h) = ap (said ed) (holds_line (written ed f) h) ∙ says ed f (record { fits = fits; short = h.short })

  -- A line says this exactly where this is what it means.
  pub means : (l : Line) (x : Said) → (said ed l ≡ x) ↔ Means ed l x
  means l x = (λ e. subst (Means ed l) e (meant l), says_so)
