-- RFC 3629 in a file: a name is refused for 7 exactly where its text is not the grammar's, and the names of a file that passes count the
-- grammar's characters. The names read so far are the texts of the lines that passed.
use mathlib.Core.Bool.{true, false, not, true≢false}
use mathlib.Core.List.{List, [], ◌∷◌, ◌++◌, map, flat_map, append-nil, append_assoc}
use mathlib.Core.Logic.{◌↔◌}
use mathlib.Core.Path.{◌≡◌, refl, sym, ap, ◌∙◌}
use Prim.Native.Nat.{ℕ, ◌<◌}
use native.Mathlib.Omega.{arith}
use lib.ListN.{length}
use borrow.Author.Tests.{leb-false, lt-leb, not-false}
use Rattle.text.specs.Utf8.{Text, characters}
use Rattle.text.proofs.Grammar.{counts}
use Rattle.format.specs.Refusal.{Refusal, broken_text}
use Rattle.format.specs.Frame.{Edition, wide, Kind, may_stand, the_limits, a_name, a_type, a_predicate, a_node, the_query, frame_kind}
use Rattle.format.specs.References.{texts_of}
use Rattle.format.specs.SoFar.{SoFar, Said, malformed, unknown_kind, no_frame, frames, add, after, texts_on, texts_in, start}
use Rattle.format.specs.Conditions.{any_of, of_frame, broken, max_names, is_malformed, is_misplaced, is_full, is_one_too_many, is_last_query_past}
use Rattle.format.specs.Conditions.{is_query_too_many, is_no_frame, is_broken_text, conditions}
use Rattle.format.specs.File.{Form, count_of, schema_of, describe, described, reading}
use Rattle.format.specs.All.{All, Each}
use Rattle.format.specs.Refused.{First, here, later, Pass, none_left, more, Refused, too_long, at_line, missing_query, BrokenText}
use Rattle.format.proofs.Tests.{cases, clash}
use Rattle.format.proofs.Conditions.{readable, unbroken}
use Rattle.format.proofs.Refused.{described_when}
use Rattle.format.proofs.Sound.{pass_kept}

-- ---- The characters that are counted

names_after : (so : SoFar) (l : Said) → (after so l).names ≡ so.names ++ texts_on l
unfolding after add texts_on texts_of
names_after so malformed = sym (append-nil so.names)
names_after so unknown_kind = sym (append-nil so.names)
names_after so (no_frame k) = sym (append-nil so.names)
names_after so (frames (the_limits d t)) = sym (append-nil so.names)
names_after so (frames (a_name s)) = refl
names_after so (frames (a_type t)) = sym (append-nil so.names)
names_after so (frames (a_predicate n k v)) = sym (append-nil so.names)
names_after so (frames (a_node n)) = sym (append-nil so.names)
names_after so (frames (the_query q)) = sym (append-nil so.names)

pass_names : {so end : SoFar} {ls : List Said} → Pass so ls end → end.names ≡ so.names ++ flat_map texts_on ls
unfolding flat_map
pass_names (none_left {so = so}) = sym (append-nil so.names)
pass_names (more {so = so} {l = l} {ls = ls} a p) =
    pass_names p ∙ ap (λ x. x ++ flat_map texts_on ls) (names_after so l) ∙ append_assoc so.names (texts_on l) (flat_map texts_on ls)

counted : (ts : List (List ℕ)) → All (λ s. (n : ℕ) × Text s n) ts → Each Text ts (map (λ s. count_of (characters s)) ts)
unfolding count_of
counted [] h = tt
counted (s ∷ ts) h = (rw ((counts s h.0.0).0 h.0.1) h.0.1, counted ts h.1)

pub texts_counted : (file : List ℕ) (f : Form) → reading file ≡ described f → Each Text (texts_in wide file) f.schema.characters
unfolding describe schema_of texts_in start
texts_counted file f e =
    let a = described_when wide file f e in
    rw (a.is, ← pass_names a.pass) (counted a.end.names (pass_kept a.pass).texts)

-- ---- 7

no_text : (s : List ℕ) → broken s ≡ true → (n : ℕ) → Text s n → ⊥
no_text s h n t = true≢false (sym h ∙ unbroken s (n, t))

text_none : (s : List ℕ) → ((n : ℕ) → Text s n → ⊥) → broken s ≡ true
text_none s h = cases (broken s) (λ q. q) (λ q. let r = readable s q in absurd (h r.0 r.1))

-- the conditions before 7 that a name can meet
record AtText (so : SoFar) (l : Said) : Type 0 where
  placed : is_misplaced so l ≡ false
  room : is_one_too_many so l ≡ false
  text : is_broken_text so l ≡ true

at_text : {so : SoFar} {l : Said} {i : Refusal} → First conditions so l i → i ≡ broken_text → AtText so l
unfolding conditions
at_text (here q) e = let z : ◌≡◌ {A = ℕ} 0 1 = cc in absurd (omega arith)
at_text (later q (here r)) e = let z : ◌≡◌ {A = ℕ} 0 1 = cc in absurd (omega arith)
at_text (later q (later r (here s))) e = let z : ◌≡◌ {A = ℕ} 0 1 = cc in absurd (omega arith)
at_text (later q (later r (later s (here t)))) e = let z : ◌≡◌ {A = ℕ} 0 1 = cc in absurd (omega arith)
at_text (later q (later r (later s (later t (here u))))) e = let z : ◌≡◌ {A = ℕ} 0 1 = cc in absurd (omega arith)
at_text (later q (later r (later s (later t (later u (here v)))))) e = record { placed = r; room = s; text = v }
at_text (later q (later r (later s (later t (later u (later v (here w))))))) e = let z : ◌≡◌ {A = ℕ} 0 1 = cc in absurd (omega arith)
at_text (later q (later r (later s (later t (later u (later v (later w (here x)))))))) e = let z : ◌≡◌ {A = ℕ} 0 1 = cc in absurd (omega arith)
at_text (later q (later r (later s (later t (later u (later v (later w (later x (here y))))))))) e = let z : ◌≡◌ {A = ℕ} 0 1 = cc in absurd (omega arith)
at_text {so = so} {l = l} {i = i} (later q (later r (later s (later t (later u (later v (later w (later x (later _ h))))))))) e = elim h [ ]

-- such a line is a name
record NameLine (so : SoFar) (l : Said) : Type 0 where
  text : List ℕ
  is : l ≡ frames (a_name text)
  placed : may_stand so.previous Kind.name ≡ true
  room : length so.names < max_names
  broken : (n : ℕ) → Text text n → ⊥

name_line : (so : SoFar) (l : Said) → AtText so l → NameLine so l
unfolding is_misplaced is_one_too_many is_full is_broken_text of_frame any_of texts_of frame_kind
name_line so malformed a = clash (sym a.text)
name_line so unknown_kind a = clash (sym a.text)
name_line so (no_frame k) a = clash (sym a.text)
name_line so (frames (the_limits d t)) a = clash (sym a.text)
name_line so (frames (a_name s)) a =
    record {
      text = s;
      is = refl;
      placed = not-false (may_stand so.previous Kind.name) a.placed;
      room = leb-false max_names (length so.names) a.room;
      broken = no_text s found;
    }
  where
    found : broken s ≡ true
    found = cases (broken s) (λ q. q) (λ q. clash (sym a.text ∙ rw (q, any_of)))
name_line so (frames (a_type t)) a = clash (sym a.text)
name_line so (frames (a_predicate n k v)) a = clash (sym a.text)
name_line so (frames (a_node n)) a = clash (sym a.text)
name_line so (frames (the_query q)) a = clash (sym a.text)

broken_at : {ed : Edition} {file : List ℕ} {i : Refusal} → Refused ed file i → i ≡ broken_text → BrokenText ed file
broken_at (too_long h) e = let z : ◌≡◌ {A = ℕ} 0 1 = cc in absurd (omega arith)
broken_at (missing_query end h p q) e = let z : ◌≡◌ {A = ℕ} 0 1 = cc in absurd (omega arith)
broken_at (at_line h s) e =
    let n = name_line s.read s.line (at_text s.first e) in
    record {
      size = h;
      before = s.before;
      text = n.text;
      rest = s.rest;
      read = s.read;
      split = s.split ∙ ap (λ x. s.before ++ x ∷ s.rest) n.is;
      pass = s.pass;
      placed = n.placed;
      room = n.room;
      broken = n.broken;
    }

text_first : (so : SoFar) (s : List ℕ) → may_stand so.previous Kind.name ≡ true → length so.names < max_names → ((n : ℕ) → Text s n → ⊥)
    → First conditions so (frames (a_name s)) broken_text
unfolding conditions is_malformed is_misplaced is_one_too_many is_full is_query_too_many is_last_query_past is_no_frame is_broken_text of_frame any_of texts_of
    frame_kind
text_first so s p r b = later refl (later (ap not p) (later (lt-leb max_names (length so.names) r) (later refl (later refl (here found)))))
  where
    found : is_broken_text so (frames (a_name s)) ≡ true
    found = rw (text_none s b, any_of)

pub broken_exactly : (ed : Edition) (file : List ℕ) → Refused ed file broken_text ↔ BrokenText ed file
broken_exactly ed file = (
  λ r. broken_at r refl,
  λ b. at_line b.size
      (record {
        before = b.before;
        line = frames (a_name b.text);
        rest = b.rest;
        read = b.read;
        split = b.split;
        pass = b.pass;
        first = text_first b.read b.text b.placed b.room b.broken;
      }),
)
