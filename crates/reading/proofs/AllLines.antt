-- The lines one after the other: what was read so far is held, and reading what is left from there is reading the file.
use mathlib.Core.List.{List, [], ◌∷◌, ◌++◌, map}
use mathlib.Core.Path.{◌≡◌, refl, sym, ap, subst, ◌∙◌}
use Prim.Native.Nat.{ℕ, zero, suc, ◌<◌, ◌≤◌}
use native.Mathlib.Omega.{arith}
use lib.ListN.{length, get_or, take, drop}
use borrow.Author.Tests.{lt-ltb, le-ltb}
use Rattle.cells.specs.CodeCalls.{Declares}
use Rattle.cells.specs.Stands.{Rows}
use Rattle.format.specs.Refusal as Refused
use Rattle.format.specs.Frame.{query, kind_of}
use Rattle.format.specs.Lines.{lines, position}
use Rattle.format.specs.SoFar.{SoFar, Said, start, said, said_by, after}
use Rattle.format.specs.Refused.{Pass, none_left, more}
use Rattle.format.proofs.Conditions.{none_holds}
use Rattle.format.proofs.Sound.{pass_kept}
use Rattle.format.specs.Conditions.{same_text, conditions, first_of}
use Rattle.format.specs.File.{value_text, max_file, Reading, refused, described, at_end, read_from, is_too_long, reading_of, last_of, types_of}
use Rattle.format.specs.Frame.{wide}
use Rattle.meaning.specs.Outcome.{min_words, decide_read, decide}
use Rattle.format.proofs.Tests.{cases, clash}
use lib.Dec.{ltb}
use Rattle.std.specs.Result.{is_err}
use Rattle.format.proofs.Refused.{read_refused, read_next, within, not_ended}
use Rattle.sigla_hex.proofs.Line.{lines_at_end, place_below}
use Rattle.frames.specs.declared.Kind as Coded
use Rattle.frames.specs.declared.Kind.TheVariants as Code
use Rattle.frames.specs.Promises.{BytesAt, Decodes, MalformedAt, kind_meant, known}
use Rattle.frames.proofs.Decoding.{holds_line}
use Rattle.reading.specs.declared.Refusal.{Refusal}
use Rattle.work.specs.declared.Counters.{Counters}
use Rattle.work.specs.Counted.{no_counters}
use Rattle.reading.specs.Held.{Held}
use Rattle.reading.specs.Prints.{Printed}
use Rattle.reading.specs.Promises.{refusal, LineAt, LineEnds, TakesLine, counted, ReadingEnds, TakesLines, reading_in}
use Rattle.reading.proofs.Prints.{no_prints}
use Rattle.reading.proofs.Order.{first_malformed}
use Rattle.reading.proofs.AnyLine.{unknown}
use Rattle.reading.proofs.Ends.{nothing_held, schema_held, long_held, all_declared}
use Rattle.format.specs.Frame.{Edition}
use Rattle.std.specs.Prelude.{Bool, true, Err, IfSome, None, Ok, Option, Result, Some}

-- ---- Between two lines

position_few : {A : Type 0} (test : A → Bool) (l : List A) (n : ℕ) → length l ≤ n → IfSome (position test l) (λ i. i < n)
position_few test l n h = go (position test l) refl
  where
    go : (o : Option ℕ) → position test l ≡ o → IfSome o (λ i. i < n)
    go None q = tt
    go (Some i) q = omega (arith, place_below test l i q)

meant_query : (p : Option Coded.Kind) → known p ≡ Some query → p ≡ Some Code.Query
meant_query (Some Code.Query) e = refl
meant_query None e = let z : ◌≡◌ {A = ℕ} 0 1 = cc in absurd (omega arith)
meant_query (Some Code.Limits) e = let z : ◌≡◌ {A = ℕ} 0 1 = cc in absurd (omega arith)
meant_query (Some Code.Name) e = let z : ◌≡◌ {A = ℕ} 0 1 = cc in absurd (omega arith)
meant_query (Some Code.SchemaType) e = let z : ◌≡◌ {A = ℕ} 0 1 = cc in absurd (omega arith)
meant_query (Some Code.Predicate) e = let z : ◌≡◌ {A = ℕ} 0 1 = cc in absurd (omega arith)
meant_query (Some Code.Node) e = let z : ◌≡◌ {A = ℕ} 0 1 = cc in absurd (omega arith)

-- One line more passes.
pass_on : {so mid : SoFar} {ls : List Said} (l : Said) → Pass so ls mid → first_of conditions mid l ≡ None → Pass so (ls ++ l ∷ []) (after mid l)
pass_on {mid = mid} l none_left e = more (none_holds conditions mid l e) none_left
pass_on l (more a p) e = more a (pass_on l p e)

pub record Midway (ed : Edition) (f w prints : List ℕ) (c : Counters) (previous : Option Coded.Kind) (at : ℕ) : Type 0 where
  pub rows : Rows
  pub so : SoFar
  pub held : Held ed f at w rows c (known previous) so
  pub printed : Printed prints so.names
  pub left : reading_of ed f ≡ read_from so (map (said ed) (lines (drop at f)))
  pub before : List Said
  pub passed : Pass start before so
  pub last : last_of start (map (said ed) (lines f)) ≡ last_of so (map (said ed) (lines (drop at f)))

pub midway_start : (ed : Edition) (f w prints : List ℕ) → length f ≤ 65536 → 16384 ≤ length w → Midway ed f w prints no_counters None 0
unfolding max_file start
midway_start ed f w prints small long = record {
  rows = _;
  so = _;
  held = nothing_held ed f w small long;
  printed = no_prints prints;
  left = within ed f small;
  before = [];
  passed = none_left;
  last = refl;
}

ends_refused : (ed : Edition) (f w : List ℕ) (e : Refusal) (r : Reading) → r ≡ refused (refusal e) → ReadingEnds ed f w (Err e) r
unfolding ReadingEnds
ends_refused ed f w e r q = subst (ReadingEnds ed f w (Err e)) (sym q) (e, refl, refl)

-- ---- A line

pub decoded : {f line : List ℕ} {at n next : ℕ} {r : Option (ℕ × ℕ)} → Decodes f at line r → r ≡ Some (n, next) → BytesAt f at line n next
decoded {f} {line} {at} d e = subst (λ r. IfSome r (λ p. BytesAt f at line p.0 p.1)) e d.holds

module _ (ed : Edition) {f : List ℕ} {at : ℕ} {line : List ℕ} {n next : ℕ} (h : BytesAt f at line n next) where
  pub line_holds : LineAt f at next (take n line)
  line_holds = record {
    is = holds_line f at line n next h;
    on = omega (arith, h.on, h.count);
    within = h.within;
    some = omega (arith, h.some, h.count);
    most = omega (arith, h.most, h.count);
  }

  -- the first of the bytes that the line has
  pub first_taken : get_or (take n line) 0 0 ≡ get_or line 0 0
  first_taken = go n line h.some
    where
      go : (n : ℕ) (l : List ℕ) → 0 < n → get_or (take n l) 0 0 ≡ get_or l 0 0
      go zero l p = absurd (omega arith)
      go (suc n) [] p = refl
      go (suc n) (b ∷ l) p = refl

  -- what the lines from here on say
  says_next : map (said ed) (lines (drop at f)) ≡ said_by ed (Some (take n line)) ∷ map (said ed) (lines (drop next f))
  unfolding said
  says_next = ap (map (said ed)) h.splits ∙ ap (λ o. said_by ed o ∷ map (said ed) (lines (drop next f))) h.bytes

  next_lines : (so : SoFar) → read_from so (map (said ed) (lines (drop at f))) ≡ read_from so
      (said_by ed (Some (take n line)) ∷ map (said ed) (lines (drop next f)))
  next_lines so = ap (read_from so) says_next

  next_last : (so : SoFar) → last_of so (map (said ed) (lines (drop at f))) ≡ last_of (after so (said_by ed (Some (take n line))))
      (map (said ed) (lines (drop next f)))
  unfolding last_of
  next_last so = ap (last_of so) says_next

module _ (ed : Edition) {f w prints : List ℕ} {c : Counters} {previous : Option Coded.Kind} {at : ℕ} (m : Midway ed f w prints c previous at) where
  module _ {line : List ℕ} {n next : ℕ} (h : BytesAt f at line n next) where
    abbrev says : Said
    says = said_by ed (Some (take n line))

    module _ (kind : Coded.Kind) (e : Some (kind_meant kind) ≡ kind_of (get_or line 0 0)) (w' prints' : List ℕ) where
      steps : (r : Result Counters Refusal) → TakesLine ed f at (take n line) w prints c previous kind w' prints' r
          → LineEnds ed f next w' (Some (kind_meant kind)) (after m.so says) r (first_of conditions m.so says)
      steps r t = t.is next m.rows m.so m.held m.printed
          (line_holds ed h) (e ∙ ap kind_of (sym (first_taken ed h)))

      pub midway_on : (d : Counters) → TakesLine ed f at (take n line) w prints c previous kind w' prints' (Ok d) → Midway ed f w' prints' d (Some kind) next
      midway_on d t = go (first_of conditions m.so says) refl (steps (Ok d) t)
        where
          go : (o : Option Refused.Refusal) → first_of conditions m.so says ≡ o → LineEnds ed f next w' (Some (kind_meant kind)) (after m.so says) (Ok d) o
              → Midway ed f w' prints' d (Some kind) next
          go None q s =
              let same : d ≡ s.0 = cc s.1 in
              record {
                rows = s.2.0;
                so = after m.so says;
                held = subst (λ x. Held ed f next w' s.2.0 x (Some (kind_meant kind)) (after m.so says)) (sym same) s.2.1;
                printed = t.printed next m.rows m.so d m.held m.printed (line_holds ed h) (e ∙ ap kind_of (sym (first_taken ed h))) refl;
                left = m.left ∙ next_lines ed h m.so ∙ read_next m.so says (map (said ed) (lines (drop next f))) q;
                before = m.before ++ says ∷ [];
                passed = pass_on says m.passed q;
                last = m.last ∙ next_last ed h m.so;
              }
          go (Some i) q s = let x = s.1 in let z : ◌≡◌ {A = ℕ} 0 1 = cc in absurd (omega arith)

      pub midway_off : (i : Refusal) → TakesLine ed f at (take n line) w prints c previous kind w' prints' (Err i)
          → ReadingEnds ed f w' (Err i) (reading_of ed f)
      midway_off i t = go (first_of conditions m.so says) refl (steps (Err i) t)
        where
          go : (o : Option Refused.Refusal) → first_of conditions m.so says ≡ o → LineEnds ed f next w' (Some (kind_meant kind)) (after m.so says) (Err i) o
              → ReadingEnds ed f w' (Err i) (reading_of ed f)
          go None q s = let x = s.1 in let z : ◌≡◌ {A = ℕ} 0 1 = cc in absurd (omega arith)
          go (Some j) q s =
              let same : i ≡ s.0 = cc s.1 in
              ends_refused ed f w' i (reading_of ed f) (m.left ∙ next_lines ed h m.so ∙ read_refused m.so says
              (map (said ed) (lines (drop next f))) j q ∙ ap refused (sym (ap refusal same ∙ s.2)))

    -- a line of no kind
    pub midway_unknown : None ≡ kind_of (get_or line 0 0) → ReadingEnds ed f w (Err Refusal.MisplacedKind) (reading_of ed f)
    midway_unknown z = ends_refused ed f w Refusal.MisplacedKind (reading_of ed f)
        (m.left ∙ next_lines ed h m.so ∙ read_refused m.so says (map (said ed) (lines (drop next f))) Refused.misplaced_kind
        (unknown ed m.so (take n line) (line_holds ed h).some (z ∙ ap kind_of (sym (first_taken ed h)))))

  -- what `take_line` asks
  pub midway_asks : (c.names ≤ 256) × (c.types ≤ 256) × (c.fields ≤ 8192)
  midway_asks =
      let o = m.held in
      (omega (arith, o.names.count, o.names.few), omega (arith, o.types.count, o.types.few), omega (arith, o.room, o.place, o.small))

  pub midway_placed : at < length f → at < 65536
  midway_placed l = omega (arith, m.held.small)

  -- the name `value` is one of the names
  pub midway_value : IfSome c.value (λ n. n < 256)
  midway_value = subst (λ v. IfSome v (λ n. n < 256)) (sym m.held.names.valued)
      (position_few (same_text value_text) m.so.names 256 m.held.names.few)

  pub midway_bad : MalformedAt f at → ReadingEnds ed f w (Err Refusal.MalformedLine) (reading_of ed f)
  unfolding said said_by
  midway_bad b =
      ends_refused ed f w Refusal.MalformedLine (reading_of ed f)
      (m.left ∙ ap (λ ls. read_from m.so (map (said ed) ls)) b.splits ∙ ap (λ o. read_from m.so (said_by ed o ∷ map (said ed) b.rest)) b.bytes
      ∙ read_refused m.so (said_by ed None) (map (said ed) b.rest) Refused.malformed_line (first_malformed m.so))

  -- ---- The end of the file
  module _ (last : length f ≤ at) where
    at_end_lem : reading_of ed f ≡ at_end m.so m.so.previous
    unfolding read_from
    at_end_lem = m.left ∙ ap (λ ls. read_from m.so (map (said ed) ls)) (lines_at_end f at last)

    types_were : m.so.types ≡ types_of ed f
    unfolding last_of types_of
    types_were = ap SoFar.types (sym (m.last ∙ ap (λ ls. last_of m.so (map (said ed) ls)) (lines_at_end f at last)))

    pub midway_whole : previous ≡ Some Code.Query → ReadingEnds ed f (counted w c) (Ok tt) (reading_of ed f)
    unfolding at_end ReadingEnds
    midway_whole e =
        let was : m.so.previous ≡ Some query = sym (rw e at m.held.kind) in
        let types = subst (Declares (counted w c) m.rows) types_were (all_declared ed m.held (pass_kept m.passed)) in
        subst (ReadingEnds ed f (counted w c) (Ok tt)) (sym (at_end_lem ∙ ap (at_end m.so) was))
        (refl, long_held ed m.held, (m.rows, schema_held ed m.held query was, types))

    pub midway_missing : (previous ≡ Some Code.Query → ⊥) → ReadingEnds ed f w (Err Refusal.MisplacedKind) (reading_of ed f)
    midway_missing e = ends_refused ed f w Refusal.MisplacedKind (reading_of ed f)
        (at_end_lem ∙ not_ended m.so m.so.previous (λ q. e (meant_query previous (m.held.kind ∙ q))))

-- ---- The file

module _ (ed : Edition) (f w : List ℕ) where
  pub file_short_work : length w < 16384 → ReadingEnds ed f w (Err Refusal.WorkTooShort) (reading_in ed f (length w))
  unfolding reading_in min_words
  file_short_work l = ends_refused ed f w Refusal.WorkTooShort (reading_in ed f (length w)) (rw (lt-ltb (length w) 16384 l, reading_in))

  module _ (l : 16384 ≤ length w) where
    enough : reading_in ed f (length w) ≡ reading_of ed f
    unfolding reading_in min_words
    enough = rw (le-ltb (length w) 16384 l, reading_in)

    pub file_too_long_lem : 65536 < length f → ReadingEnds ed f w (Err Refusal.FileTooLong) (reading_in ed f (length w))
    unfolding reading_of is_too_long max_file
    file_too_long_lem h = ends_refused ed f w Refusal.FileTooLong (reading_in ed f (length w)) (enough ∙ rw (lt-ltb 65536 (length f) h, reading_of))

    pub file_taken : (w' : List ℕ) (r : Result (Unit {0}) Refusal) → TakesLines ed f w w' r → ReadingEnds ed f w' r (reading_in ed f (length w))
    file_taken w' r t = subst (ReadingEnds ed f w' r) (sym enough) t.ends

-- The whole call decides by this reading.
pub decided : (f : List ℕ) (words : ℕ) → decide f words ≡ decide_read (reading_in wide f words)
unfolding decide decide_read reading_in
decided f words = cases (ltb words min_words) (λ q. rw (q, decide, reading_in)) (λ q. rw (q, decide, reading_in))

-- A refusal says nothing of the slice.
pub ends_cleared : (ed : Edition) (f w w' : List ℕ) (r : Result (Unit {0}) Refusal) (e : Refusal) (d : Reading) → r ≡ Err e → ReadingEnds ed f w r d
    → ReadingEnds ed f w' r d
unfolding ReadingEnds
ends_cleared ed f w w' r e (refused i) q h = h
ends_cleared ed f w w' r e (described d) q h = let x = h.0 in let z : ◌≡◌ {A = ℕ} 0 1 = cc in absurd (omega arith)

pub refused_by : (r : Result (Unit {0}) Refusal) → is_err r ≡ true → (e : Refusal) × (r ≡ Err e)
refused_by (Ok u) q = clash (sym q)
refused_by (Err e) q = (e, refl)
