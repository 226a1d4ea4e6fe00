-- The files that pass are exactly the writings of frames that obey the rules: a line says a frame exactly where it is that frame's line.
use mathlib.Core.List.{List, [], ◌∷◌, ◌++◌, map, flat_map, append-nil, append_assoc, head-eq_of_cons-eq, tail-eq_of_cons-eq}
use mathlib.Core.Logic.{◌↔◌}
use mathlib.Core.Path.{◌≡◌, refl, sym, ap, ap₂, subst, ◌∙◌}
use Prim.Native.Nat.{ℕ, zero, suc, ◌≤◌}
use native.Mathlib.Omega.{arith}
use lib.Dec.{leb}
use lib.ListN.{length}
use borrow.Author.Tests.{leb-true, le-leb}
use Rattle.format.specs.Lines.{Line, closed, unclosed, LF, lines, decoded, max_bytes, at_most, some_bytes, bytes_of}
use Rattle.format.specs.Frame.{Edition, Kind, kind_byte, kind_of, Frame, frame_kind, Got, got, fails, frame, whole, frame_of}
use Rattle.format.specs.SoFar.{malformed, frames, said_of, said_in, said_by, said}
use Rattle.format.specs.File.{Form, described, reading_of}
use Rattle.format.specs.All.{All}
use Rattle.format.specs.Writing.{Byte, FrameFits, as_content, written, file_of, Writable}
use Rattle.format.proofs.Obeys.{Written}
use Rattle.format.proofs.Tests.{cases}
use Rattle.format.proofs.Hex.{hexes, line_hexes, decoded_hex, hex_no_LF, Hex, hex_decoded}
use Rattle.format.proofs.Lines.{together, lines_together, lines_closed}
use Rattle.format.proofs.Grammar.{content_back, FrameTook, content_forth}
use Rattle.format.proofs.Bytes.{written_bytes}
use Rattle.format.proofs.Frames.{pass_rules, rules_pass}
use Rattle.format.proofs.Refused.{accepted, described_when}
use Rattle.std.specs.Prelude.{None, Option, Some}

-- ---- Kinds

pub byte_kind : (k : Kind) → kind_of (kind_byte k) ≡ Some k
unfolding kind_of kind_byte
byte_kind Kind.limits = refl
byte_kind Kind.name = refl
byte_kind Kind.schema_type = refl
byte_kind Kind.predicate = refl
byte_kind Kind.node = refl
byte_kind Kind.query = refl

is_byte : (k k' : Kind) (b : ℕ) → kind_byte k ≡ b → Some k ≡ Some k' → b ≡ kind_byte k'
is_byte k k' b p e = let same : k ≡ k' = cc in sym p ∙ ap kind_byte same

pub kind_byte_lem : (b : ℕ) (k : Kind) → kind_of b ≡ Some k → b ≡ kind_byte k
unfolding kind_of kind_byte
kind_byte_lem zero k e = let z : ◌≡◌ {A = ℕ} 0 1 = cc in absurd (omega arith)
kind_byte_lem (suc zero) k e = is_byte Kind.limits k 1 refl e
kind_byte_lem (suc (suc zero)) k e = is_byte Kind.name k 2 refl e
kind_byte_lem (suc (suc (suc zero))) k e = is_byte Kind.schema_type k 3 refl e
kind_byte_lem (suc (suc (suc (suc zero)))) k e = is_byte Kind.predicate k 4 refl e
kind_byte_lem (suc (suc (suc (suc (suc zero))))) k e = is_byte Kind.node k 5 refl e
kind_byte_lem (suc (suc (suc (suc (suc (suc zero)))))) k e = is_byte Kind.query k 6 refl e
kind_byte_lem (suc (suc (suc (suc (suc (suc (suc b))))))) k e = let z : ◌≡◌ {A = ℕ} 0 1 = cc in absurd (omega arith)

-- ---- A line

pub at_most_lem : (n : ℕ) (s : List ℕ) → length s ≤ n → at_most n s ≡ Some s
unfolding at_most
at_most_lem n s h = rw (le-leb (length s) n h, at_most)

is_frame_lem : (k : Kind) (o : Option Frame) (f : Frame) → said_of k o ≡ frames f → o ≡ Some f
unfolding said_of
is_frame_lem k None f e = let z : ◌≡◌ {A = ℕ} 0 1 = cc in absurd (omega arith)
is_frame_lem k (Some f') f e = let same : f' ≡ f = cc in ap Some same

module _ (ed : Edition) where
  abbrev pub line_of : Frame → Line
  line_of f = closed (hexes (written ed f))

  pub frame_back : (f : Frame) → Writable ed f → frame_of ed (frame_kind f) (as_content ed f) ≡ Some f
  unfolding frame_of whole
  frame_back f w = ap (λ s. whole (frame ed (frame_kind f) s)) (sym (append-nil (as_content ed f))) ∙ ap whole (content_back ed f w.fits)

  pub says : (f : Frame) → Writable ed f → said ed (line_of f) ≡ frames f
  unfolding said said_by said_in said_of bytes_of some_bytes written
  says f w =
      ap (λ o. said_by ed (some_bytes o)) (decoded_hex (written ed f) (written_bytes ed f w.fits))
      ∙ ap (said_by ed) (at_most_lem max_bytes (written ed f) w.short)
      ∙ ap (λ k. said_in ed k (as_content ed f)) (byte_kind (frame_kind f))
      ∙ ap (said_of (frame_kind f)) (frame_back f w)

  -- what a line is that says a frame
  pub record IsLine (l : Line) (f : Frame) : Type 0 where
    pub is : l ≡ line_of f
    pub writable : Writable ed f

  -- from the frame back to the bytes, a step at a time
  pub frame_forth : (k : Kind) (s : List ℕ) (f : Frame) → All Byte s → frame_of ed k s ≡ Some f → FrameTook ed k s f []
  unfolding frame_of whole
  frame_forth k s f h e = go (frame ed k s) refl e
    where
      go : (g : Got Frame) → frame ed k s ≡ g → whole g ≡ Some f → FrameTook ed k s f []
      go (got f' []) q c = let same : f' ≡ f = cc in content_forth ed k s f [] h (rw same at q)
      go (got f' (b ∷ t)) q c = let z : ◌≡◌ {A = ℕ} 0 1 = cc in absurd (omega arith)
      go fails q c = let z : ◌≡◌ {A = ℕ} 0 1 = cc in absurd (omega arith)

  is_written : (b : ℕ) (s : List ℕ) (f : Frame) → All Byte s → said_in ed (kind_of b) s ≡ frames f → (b ∷ s ≡ written ed f) × FrameFits ed f
  unfolding said_in written
  is_written b s f h e = go (kind_of b) refl e
    where
      go : (o : Option Kind) → kind_of b ≡ o → said_in ed o s ≡ frames f → (b ∷ s ≡ written ed f) × FrameFits ed f
      go None q c = let z : ◌≡◌ {A = ℕ} 0 1 = cc in absurd (omega arith)
      go (Some k) q c =
          let t = frame_forth k s f h (is_frame_lem k (frame_of ed k s) f c) in
          let first : b ≡ kind_byte (frame_kind f) = kind_byte_lem b k q ∙ ap kind_byte (sym t.kind) in
          let later : s ≡ as_content ed f = t.bytes ∙ append-nil (as_content ed f) in
          (cc, t.fits)

  is_line : (s : List ℕ) (b : ℕ) (t : List ℕ) (f : Frame) → Hex s (b ∷ t) → said_by ed (at_most max_bytes (b ∷ t)) ≡ frames f → IsLine (closed s) f
  unfolding said_by at_most
  is_line s b t f x e = cases (leb (length (b ∷ t)) max_bytes)
      (λ q. short (leb-true (length (b ∷ t)) max_bytes q) (is_written b t f x.bytes.1 (rw (q, at_most) at e)))
      (λ q. let c : malformed ≡ frames f = rw (q, at_most) at e in let z : ◌≡◌ {A = ℕ} 0 1 = cc in absurd (omega arith))
    where
      short : length (b ∷ t) ≤ max_bytes → (b ∷ t ≡ written ed f) × FrameFits ed f → IsLine (closed s) f
      short h p = record { is = ap closed (x.is ∙ ap hexes p.0); writable = record { fits = p.1; short = subst (λ x. length x ≤ max_bytes) p.0 h } }

  pub said_line : (l : Line) (f : Frame) → said ed l ≡ frames f → IsLine l f
  unfolding said said_by bytes_of some_bytes
  said_line (unclosed s) f e = let z : ◌≡◌ {A = ℕ} 0 1 = cc in absurd (omega arith)
  said_line (closed s) f e = go (decoded s) refl e
    where
      go : (o : Option (List ℕ)) → decoded s ≡ o → said_by ed (some_bytes o) ≡ frames f → IsLine (closed s) f
      go None q c = let z : ◌≡◌ {A = ℕ} 0 1 = cc in absurd (omega arith)
      go (Some []) q c = let z : ◌≡◌ {A = ℕ} 0 1 = cc in absurd (omega arith)
      go (Some (b ∷ t)) q c = is_line s b t f (hex_decoded s (b ∷ t) q) c

  -- ---- The lines of a file

  pub record AreLines (ls : List Line) (fs : List Frame) : Type 0 where
    pub are : together ls ≡ file_of ed fs
    pub writable : All (Writable ed) fs

  pub are_lines : (ls : List Line) (fs : List Frame) → map (said ed) ls ≡ map frames fs → AreLines ls fs
  unfolding together file_of flat_map
  are_lines [] [] e = record { are = refl; writable = tt }
  are_lines [] (f ∷ fs) e = let z : ◌≡◌ {A = ℕ} 0 1 = cc in absurd (omega arith)
  are_lines (l ∷ ls) [] e = let z : ◌≡◌ {A = ℕ} 0 1 = cc in absurd (omega arith)
  are_lines (l ∷ ls) (f ∷ fs) e = go (said_line l f (head-eq_of_cons-eq e)) (are_lines ls fs (tail-eq_of_cons-eq e))
    where
      go : IsLine l f → AreLines ls fs → AreLines (l ∷ ls) (f ∷ fs)
      go i r =
          record {
            are =
                ap (λ x. together (x ∷ ls)) i.is
                ∙ ap (λ t. hexes (written ed f) ++ LF ∷ t) r.are
                ∙ sym (append_assoc (hexes (written ed f)) (LF ∷ []) (file_of ed fs))
                ∙ ap (λ x. x ++ file_of ed fs) (sym (line_hexes (written ed f)));
            writable = (i.writable, r.writable);
          }

  pub file_lines : (fs : List Frame) → All (Writable ed) fs → map (said ed) (lines (file_of ed fs)) ≡ map frames fs
  unfolding file_of flat_map lines
  file_lines [] w = refl
  file_lines (f ∷ fs) w =
      ap (λ s. map (said ed) (lines (s ++ file_of ed fs))) (line_hexes (written ed f))
      ∙ ap (λ s. map (said ed) (lines s)) (append_assoc (hexes (written ed f)) (LF ∷ []) (file_of ed fs))
      ∙ ap (map (said ed)) (lines_closed (hexes (written ed f)) (file_of ed fs) (hex_no_LF (written ed f) (written_bytes ed f w.0.fits)))
      ∙ ap₂ ◌∷◌ (says f w.0) (file_lines fs w.1)

  -- ---- The theorem

  passes : (file : List ℕ) (d : Form) → reading_of ed file ≡ described d → Written ed file d
  passes file d e =
      let a = described_when ed file d e in
      let o = pass_rules a.pass in
      let l = are_lines (lines file) o.these o.are in
      record {
        these = o.these;
        is = sym (lines_together file) ∙ l.are;
        size = a.size;
        writable = l.writable;
        end = a.end;
        rules = o.rules;
        last = a.last;
        describes = a.is;
      }

  accepts : (file : List ℕ) (d : Form) → Written ed file d → reading_of ed file ≡ described d
  accepts file d w =
      accepted ed file w.end w.size (rw (w.is, file_lines w.these w.writable) (rules_pass w.rules)) w.last
      ∙ ap described (sym w.describes)

  -- A file describes a tree exactly where it is the writing of frames that obey the rules and describe that tree.
  pub described_exactly : (file : List ℕ) (d : Form) → (reading_of ed file ≡ described d) ↔ Written ed file d
  described_exactly file d = (passes file d, accepts file d)
