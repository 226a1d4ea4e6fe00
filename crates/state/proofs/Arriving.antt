-- An entry to `unify` from outside it: it is counted, and the run goes on, or it was to last until here. The count
-- stops at the greatest word, which no number of an entry passes, so the test on words is the definition's.
use mathlib.Core.List.{List}
use mathlib.Core.Path.{◌≡◌, refl, sym, ◌∙◌, ap}
use native.Mathlib.Omega.{arith}
use Prim.Native.Nat.{ℕ, suc, ◌+◌, ◌<◌, ◌≤◌}
use lib.Dec.{ltb}
use lib.ListN.{length, get_or, set, length-set}
use lib.Seq.{get_or-set_same, get_or-set_other}
use borrow.Author.Tests.{ltb-true, ltb-false, lt-ltb, le-ltb}
use Rattle.unification.specs.Ty as Tree
use Rattle.unification.specs.Calls.{UnifyEntry}
use Rattle.work.specs.Layout.{PLACE, UNTIL, LEFT, STOP, ENTERED, GOT, EXPECTED, END}
use Rattle.cells.specs.declared.Ty.{Ty}
use Rattle.cells.specs.Words.{ty_w, tag_w, payload_w, put_ty}
use Rattle.cells.specs.Stands.{Rows, Keeps}
use Rattle.cells.proofs.Frame.{keeps_refl, keeps_trans, keeps_wider, keeps_set}
use Rattle.cells.proofs.State.{read_back, put_keeps}
use Rattle.format.specs.File.{Described}
use Rattle.format.specs.Sound.{Sound}
use Rattle.meaning.specs.Diag.{Diagnostic}
use Rattle.meaning.specs.Check as Check
use Rattle.meaning.specs.Check.{Checker, Step, goes, out, entered, with_entries, arrived}
use Rattle.meaning.specs.Run.{NotYet}
use Rattle.format.proofs.Tests.{cases}
use Rattle.state.specs.Runs.{Runs, Grew}
use Rattle.state.specs.Lines.{AFTER-SIDES, capped, until_w, stop_w, Keeping, Told, entered_w, sides_w, side_w, Enters, enters, enters_before, stops_here}
use Rattle.state.proofs.Lining.{lines_same}
use Rattle.state.proofs.Lined.{place_runs, place_grew}
use Rattle.std.specs.Prelude.{None, Some}

-- ---- The count

capped_cases : {X : Type 0} (n : ℕ) → (n < 4294967295 → capped n ≡ n → X) → (4294967295 ≤ n → capped n ≡ 4294967295 → X) → X
unfolding capped
capped_cases n f g = cases (ltb n 4294967295) (λ q. f (ltb-true n 4294967295 q) (rw (q, capped))) (λ q. g (ltb-false n 4294967295 q) (rw (q, capped)))

entered_cases : {X : Type 0} (w : List ℕ) → (get_or w ENTERED 0 < 4294967295 → entered_w w ≡ set w ENTERED (get_or w ENTERED 0 + 1) → X)
    → (4294967295 ≤ get_or w ENTERED 0 → entered_w w ≡ w → X) → X
unfolding entered_w
entered_cases w f g = cases (ltb (get_or w ENTERED 0) 4294967295) (λ q. f (ltb-true (get_or w ENTERED 0) 4294967295 q) (rw (q, entered_w)))
    (λ q. g (ltb-false (get_or w ENTERED 0) 4294967295 q) (rw (q, entered_w)))

pub entered_keeps : (w : List ℕ) → Keeps ENTERED GOT w (entered_w w)
entered_keeps w = entered_cases w (λ l e. rw e (keeps_set w ENTERED (get_or w ENTERED 0 + 1) (omega arith) (omega arith))) (λ l e. rw e keeps_refl)

-- What is noted in a word that is there stands in it.
pub noted : (w : List ℕ) (at l : ℕ) → at < length (set w at l) → get_or (set w at l) at 0 ≡ l
noted w at l h = get_or-set_same w at l 0 (rw (length-set w at l) at h)

pub sides_noted : (w : List ℕ) (got expected : Ty) (left : ℕ) → LEFT < length (sides_w w got expected left)
    → get_or (sides_w w got expected left) LEFT 0 ≡ left
unfolding sides_w
sides_noted w got expected left h = noted _ LEFT left h

pub sides_keeps : (w : List ℕ) (got expected : Ty) (left : ℕ) → Keeps LEFT AFTER-SIDES w (sides_w w got expected left)
unfolding sides_w
sides_keeps w got expected left =
    let v = put_ty w GOT got in
    keeps_trans (put_keeps w GOT got (omega arith) (omega arith)) (keeps_trans (put_keeps v EXPECTED expected (omega arith) (omega arith))
    (keeps_set (put_ty v EXPECTED expected) LEFT left (omega arith) (omega arith)))

entered_now : (w : List ℕ) (n : ℕ) → END ≤ length w → get_or w ENTERED 0 ≡ capped n → get_or (entered_w w) ENTERED 0 ≡ capped (suc n)
entered_now w n long q = entered_cases w
    (λ l e. rw e (get_or-set_same w ENTERED (get_or w ENTERED 0 + 1) 0 (omega arith)
    ∙ capped_cases n (λ i j. capped_cases (suc n) (λ a b. omega (arith, q, j, b)) (λ a b. omega (arith, q, j, b))) (λ i j. absurd (omega (arith, q, j)))))
    (λ l e. rw e (q ∙ capped_cases n (λ i j. absurd (omega (arith, q, j))) (λ i j. capped_cases (suc n) (λ a b. absurd (omega arith)) (λ a b. j ∙ sym b))))

-- ---- The test is the definition's
module _ {w o s : List ℕ} {u : Check.Until} {m : ℕ} (K : Keeping w o s u m 0) (x : Checker) (n : length x.entries ≡ suc m) where
  module _ {got expected : Ty} {left : ℕ} where
    pub goes_past : {w' : List ℕ} {l : ℕ} → Enters w got expected left w' (Some l) → arrived u x ≡ goes tt x
    unfolding arrived
    goes_past (enters z) = go u refl
      where
        go : (v : Check.Until) → u ≡ v → arrived v x ≡ goes tt x
        go Check.the_end e = refl
        go Check.first_diagnostic e = refl
        go (Check.entry k) e = absurd (z (K.until ∙ ap until_w e))
    goes_past (enters_before z small) = go u refl
      where
        go : (v : Check.Until) → u ≡ v → arrived v x ≡ goes tt x
        go Check.the_end e = refl
        go Check.first_diagnostic e = refl
        go (Check.entry k) e =
            let t : get_or w STOP 0 ≡ k = K.stop ∙ ap stop_w e in
            let under : m < k = capped_cases m (λ i j. omega (arith, K.entered)) (λ i j. absurd (omega (arith, K.entered))) in
            rw (le-ltb k (length x.entries) (omega (arith, n)), arrived)

    -- What it is to last until has still not come.
    pub still_not : {w' : List ℕ} {l : ℕ} (ds : List Diagnostic) (es : List UnifyEntry) → NotYet u ds es → Enters w got expected left w' (Some l)
        → NotYet u ds x.entries
    still_not ds es h (enters z) = go u refl h
      where
        go : (v : Check.Until) → u ≡ v → NotYet v ds es → NotYet v ds x.entries
        go Check.the_end e h = tt
        go Check.first_diagnostic e h = h
        go (Check.entry k) e h = absurd (z (K.until ∙ ap until_w e))
    still_not ds es h (enters_before z small) = go u refl h
      where
        go : (v : Check.Until) → u ≡ v → NotYet v ds es → NotYet v ds x.entries
        go Check.the_end e h = tt
        go Check.first_diagnostic e h = h
        go (Check.entry k) e h =
            let t : get_or w STOP 0 ≡ k = K.stop ∙ ap stop_w e in
            let under : m < k = capped_cases m (λ i j. omega (arith, K.entered)) (λ i j. absurd (omega (arith, K.entered))) in
            omega (arith, n)

    pub stops_there : {w' : List ℕ} → Enters w got expected left w' None → arrived u x ≡ out x
    unfolding arrived
    stops_there (stops_here z l) = go u refl
      where
        go : (v : Check.Until) → u ≡ v → arrived v x ≡ out x
        go Check.the_end e = let q : ◌≡◌ {A = ℕ} 2 0 = sym z ∙ K.until ∙ ap until_w e in absurd (omega arith)
        go Check.first_diagnostic e = let q : ◌≡◌ {A = ℕ} 2 1 = sym z ∙ K.until ∙ ap until_w e in absurd (omega arith)
        go (Check.entry k) e =
            let t : get_or w STOP 0 ≡ k = K.stop ∙ ap stop_w e in
            let over : k ≤ m = capped_cases m (λ i j. omega (arith, K.entered)) (λ i j. omega (arith, K.entered)) in
            rw (lt-ltb k (length x.entries) (omega (arith, n)), arrived)

-- ---- The words after it
module _ {f w o : List ℕ} {T : Rows} {d : Described} {c : Checker} (sound : Sound d) (R : Runs f w T d c) (L : Told d w o c 0) (a b : Tree.Ty) where
  -- The same words stand for the checker with the entry noted.
  noted_runs : {v : List ℕ} → Runs f v T d c → Runs f v T d (entered a b c)
  unfolding entered with_entries
  noted_runs S = record {
    stands = S.stands;
    holds = S.holds;
    nodes = S.nodes;
    scopes = record {
      env = S.scopes.env;
      few_env = S.scopes.few_env;
      makers = S.scopes.makers;
      marks = S.scopes.marks;
      few_marks = S.scopes.few_marks;
      unused = S.scopes.unused;
      few_unused = S.scopes.few_unused;
      left = S.scopes.left;
    };
    diagnostics = S.diagnostics;
    few_diagnostics = S.few_diagnostics;
  }

  counted : Keeps PLACE AFTER-SIDES w (entered_w w)
  counted = keeps_wider (omega arith) (omega arith) (entered_keeps w)

  pub entered_runs : Runs f (entered_w w) T d (entered a b c)
  entered_runs = noted_runs (place_runs sound R counted)

  pub entered_grew : Grew w (entered_w w) 0 0
  entered_grew = place_grew sound R counted

  pub entered_told : Told d (entered_w w) o (entered a b c) 0
  unfolding entered with_entries
  entered_told =
      let k = entered_keeps w in
      record {
        lines = lines_same (λ i l h. k.below i (omega arith)) L.lines;
        until = k.below UNTIL (omega arith) ∙ L.until;
        stop = k.below STOP (omega arith) ∙ L.stop;
        entered = entered_now w (length c.entries) R.holds.long L.entered;
        left = k.below LEFT (omega arith) ∙ L.left;
      }

  module _ (got expected : Ty) (left : ℕ) where
    abbrev v₀ : List ℕ
    v₀ = entered_w w

    abbrev v₁ : List ℕ
    v₁ = set v₀ GOT (tag_w got)

    abbrev v₂ : List ℕ
    v₂ = set v₁ (GOT + 1) (payload_w got)

    abbrev v₃ : List ℕ
    v₃ = set v₂ EXPECTED (tag_w expected)

    abbrev v₄ : List ℕ
    v₄ = set v₃ (EXPECTED + 1) (payload_w expected)

    pub stopped_keeps : Keeps PLACE AFTER-SIDES w (sides_w v₀ got expected left)
    stopped_keeps = keeps_trans counted (keeps_wider (omega arith) (omega arith) (sides_keeps v₀ got expected left))

    pub stopped_runs : Runs f (sides_w v₀ got expected left) T d (entered a b c)
    stopped_runs = noted_runs (place_runs sound R stopped_keeps)

    pub stopped_grew : Grew w (sides_w v₀ got expected left) 0 0
    stopped_grew = place_grew sound R stopped_keeps

    long₀ : END ≤ length v₀
    long₀ = omega (arith, R.holds.long, (entered_keeps w).long)

    other : (i : ℕ) → i < GOT → ¬ (i ≡ LEFT) → get_or (sides_w v₀ got expected left) i 0 ≡ get_or v₀ i 0
    unfolding sides_w put_ty
    other i h n =
        get_or-set_other v₄ LEFT i left 0 n ∙ get_or-set_other v₃ (EXPECTED + 1) i (payload_w expected) 0 (λ q. omega arith) ∙ get_or-set_other v₂ EXPECTED i
        (tag_w expected) 0 (λ q. omega arith)
        ∙ get_or-set_other v₁ (GOT + 1) i (payload_w got) 0 (λ q. omega arith) ∙ get_or-set_other v₀ GOT i (tag_w got) 0 (λ q. omega arith)

    long₄ : END ≤ length v₄
    long₄ = omega (
      arith,
      long₀,
      length-set v₃ (EXPECTED + 1) (payload_w expected),
      length-set v₂ EXPECTED (tag_w expected),
      length-set v₁ (GOT + 1) (payload_w got),
      length-set v₀ GOT (tag_w got),
    )

    pub stopped_told : Told d (sides_w v₀ got expected left) o (entered a b c) left
    unfolding sides_w put_ty entered with_entries
    stopped_told = record {
      lines = lines_same (λ i l h. other i (omega arith) (λ q. omega arith)) entered_told.lines;
      until = other UNTIL (omega arith) (λ q. omega arith) ∙ entered_told.until;
      stop = other STOP (omega arith) (λ q. omega arith) ∙ entered_told.stop;
      entered = other ENTERED (omega arith) (λ q. omega arith) ∙ entered_told.entered;
      left = get_or-set_same v₄ LEFT left 0 (omega (arith, long₄));
    }

    pub got_side : side_w (sides_w v₀ got expected left) GOT ≡ got
    unfolding sides_w put_ty side_w
    got_side =
        let tag : get_or (sides_w v₀ got expected left) GOT 0 ≡ tag_w got =
        get_or-set_other v₄ LEFT GOT left 0 (λ q. omega arith) ∙ get_or-set_other v₃ (EXPECTED + 1) GOT (payload_w expected) 0 (λ q. omega arith) ∙
        get_or-set_other v₂ EXPECTED GOT (tag_w expected) 0 (λ q. omega arith)
        ∙ get_or-set_other v₁ (GOT + 1) GOT (payload_w got) 0 (λ q. omega arith) ∙ get_or-set_same v₀ GOT (tag_w got) 0 (omega (arith, long₀)) in
        let load : get_or (sides_w v₀ got expected left) (GOT + 1) 0 ≡ payload_w got =
        get_or-set_other v₄ LEFT (GOT + 1) left 0 (λ q. omega arith) ∙ get_or-set_other v₃ (EXPECTED + 1) (GOT + 1) (payload_w expected) 0 (λ q. omega arith)
        ∙ get_or-set_other v₂ EXPECTED (GOT + 1) (tag_w expected) 0 (λ q. omega arith) ∙ get_or-set_same v₁ (GOT + 1) (payload_w got) 0
        (omega (arith, long₀, length-set v₀ GOT (tag_w got))) in
        ap {B = Ty} (λ t. ty_w t (get_or (sides_w v₀ got expected left) (GOT + 1) 0)) tag ∙ ap {B = Ty} (ty_w (tag_w got)) load ∙ read_back got

    pub expected_side : side_w (sides_w v₀ got expected left) EXPECTED ≡ expected
    unfolding sides_w put_ty side_w
    expected_side =
        let tag : get_or (sides_w v₀ got expected left) EXPECTED 0 ≡ tag_w expected =
        get_or-set_other v₄ LEFT EXPECTED left 0 (λ q. omega arith) ∙ get_or-set_other v₃ (EXPECTED + 1) EXPECTED (payload_w expected) 0 (λ q. omega arith)
        ∙ get_or-set_same v₂ EXPECTED (tag_w expected) 0 (omega (arith, long₀, length-set v₁ (GOT + 1) (payload_w got), length-set v₀ GOT (tag_w got))) in
        let load : get_or (sides_w v₀ got expected left) (EXPECTED + 1) 0 ≡ payload_w expected =
        get_or-set_other v₄ LEFT (EXPECTED + 1) left 0 (λ q. omega arith)
        ∙ get_or-set_same v₃ (EXPECTED + 1) (payload_w expected) 0
        (omega (arith, long₀, length-set v₂ EXPECTED (tag_w expected), length-set v₁ (GOT + 1) (payload_w got), length-set v₀ GOT (tag_w got))) in
        ap {B = Ty} (λ t. ty_w t (get_or (sides_w v₀ got expected left) (EXPECTED + 1) 0)) tag ∙ ap {B = Ty} (ty_w (tag_w expected)) load ∙ read_back expected
