-- `begin`. A zero that is written stays, whatever zeros are written after it.
use mathlib.Core.List.{List, [], ◌∷◌}
use mathlib.Core.Path.{◌≡◌, refl, ◌∙◌}
use native.Mathlib.Omega.{arith}
use Prim.Native.Nat.{ℕ, zero, suc, ◌+◌, ◌-◌, ◌*◌, ◌≤◌, ◌<◌, min}
use borrow.Rule.Slice.PartMut.{put_mid}
use lib.ListN.{length, get_or, set, replicate, length-set}
use lib.Seq.{get_or-set_same, get_or-set_other}
use Rattle.std.proofs.lemmas.List.{places}
use Rattle.work.specs.Layout.{RECORD-COUNT, RECORD-FIELD-COUNT, ENV-LEN, DIAGNOSTIC-COUNT, UNKNOWNS, PLACE, PLACE-HIGH, FULL, UNTIL, LEFT, STOP, ENTERED}
use Rattle.work.specs.Layout.{GOT, MARK-COUNT, UNUSED-COUNT, TYS, UNDO-LEN, END}
use Rattle.cells.specs.Stands.{Keeps}
use Rattle.cells.proofs.Frame.{keeps_refl, keeps_trans, keeps_wider, keeps_set}
use Rattle.state.specs.declared.Until.{Until}
use Rattle.state.specs.Lines.{AFTER-SIDES, until_of, until_w, stop_w, capped}
use Rattle.meaning.specs.Check.{begin_until}
use Rattle.state.proofs.Starting.{Started, start_runs}
use Rattle.state.proofs.Lined.{place_runs, no_lines}
use Rattle.steps.specs.Outside.{counters_w, Untypes, StartsRun}

-- past the end a read gives 0 too
zero_at : (w : List ℕ) (i : ℕ) → get_or (set w i 0) i 0 ≡ 0
zero_at [] i = refl
zero_at (x ∷ w) zero = refl
zero_at (x ∷ w) (suc i) = zero_at w i

zero_stays : (w : List ℕ) (i j : ℕ) → get_or w j 0 ≡ 0 → get_or (set w i 0) j 0 ≡ 0
zero_stays [] i j h = h
zero_stays (x ∷ w) zero zero h = refl
zero_stays (x ∷ w) zero (suc j) h = h
zero_stays (x ∷ w) (suc i) zero h = h
zero_stays (x ∷ w) (suc i) (suc j) h = zero_stays w i j h

-- ---- Counters
keeps_zero : {w v : List ℕ} (i : ℕ) → RECORD-COUNT ≤ i → i < END → Keeps RECORD-COUNT END w v → Keeps RECORD-COUNT END w (set v i 0)
keeps_zero {w} {v} i lo hi k = keeps_trans k (keeps_set v i 0 lo hi)

-- the words after each of the eight
started : (w w' : List ℕ) → Untypes (counters_w w) 512 w' → Started w w'
unfolding counters_w
started w w' U =
    let a = set w RECORD-COUNT 0 in
    let b = set a RECORD-FIELD-COUNT 0 in
    let c = set b ENV-LEN 0 in
    let d = set c DIAGNOSTIC-COUNT 0 in
    let e = set d UNKNOWNS 0 in
    let f = set e MARK-COUNT 0 in
    let g = set f UNUSED-COUNT 0 in
    let after-g : (j : ℕ) → j < TYS → get_or g j 0 ≡ 0 → get_or w' j 0 ≡ 0 = λ j lt h. U.keeps.below j lt ∙ zero_stays g UNDO-LEN j h in
    let after-f : (j : ℕ) → j < TYS → get_or f j 0 ≡ 0 → get_or w' j 0 ≡ 0 = λ j lt h. after-g j lt (zero_stays f UNUSED-COUNT j h) in
    let after-e : (j : ℕ) → j < TYS → get_or e j 0 ≡ 0 → get_or w' j 0 ≡ 0 = λ j lt h. after-f j lt (zero_stays e MARK-COUNT j h) in
    let after-d : (j : ℕ) → j < TYS → get_or d j 0 ≡ 0 → get_or w' j 0 ≡ 0 = λ j lt h. after-e j lt (zero_stays d UNKNOWNS j h) in
    let after-c : (j : ℕ) → j < TYS → get_or c j 0 ≡ 0 → get_or w' j 0 ≡ 0 = λ j lt h. after-d j lt (zero_stays c DIAGNOSTIC-COUNT j h) in
    let after-b : (j : ℕ) → j < TYS → get_or b j 0 ≡ 0 → get_or w' j 0 ≡ 0 = λ j lt h. after-c j lt (zero_stays b ENV-LEN j h) in
    record {
      keeps = keeps_trans {v = counters_w w}
          (keeps_zero UNDO-LEN (omega arith) (omega arith)
          (keeps_zero UNUSED-COUNT (omega arith) (omega arith) (keeps_zero MARK-COUNT (omega arith) (omega arith)
          (keeps_zero UNKNOWNS (omega arith) (omega arith) (keeps_zero DIAGNOSTIC-COUNT (omega arith) (omega arith)
          (keeps_zero ENV-LEN (omega arith) (omega arith)
          (keeps_zero RECORD-FIELD-COUNT (omega arith) (omega arith) (keeps_zero RECORD-COUNT (omega arith) (omega arith) keeps_refl))))))))
          (keeps_wider (omega arith) (omega arith) U.keeps);
      records = after-b RECORD-COUNT (omega arith) (zero_stays a RECORD-FIELD-COUNT RECORD-COUNT (zero_at w RECORD-COUNT));
      fields = after-b RECORD-FIELD-COUNT (omega arith) (zero_at a RECORD-FIELD-COUNT);
      env = after-c ENV-LEN (omega arith) (zero_at b ENV-LEN);
      diagnostics = after-d DIAGNOSTIC-COUNT (omega arith) (zero_at c DIAGNOSTIC-COUNT);
      unknowns = after-e UNKNOWNS (omega arith) (zero_at d UNKNOWNS);
      marks = after-f MARK-COUNT (omega arith) (zero_at e MARK-COUNT);
      unused = after-g UNUSED-COUNT (omega arith) (zero_at f UNUSED-COUNT);
      undo = U.keeps.above UNDO-LEN (omega arith) ∙ zero_at g UNDO-LEN;
      untyped = U.untyped;
    }

-- ---- Node types
-- zeros from a to e
abbrev filled : List ℕ → ℕ → ℕ → List ℕ
filled w a e = put_mid a (e - a) w (replicate (e - a) 0)

module _ (w : List ℕ) {e a : ℕ} (end : e ≡ min (length w) UNDO-LEN) (from : a ≡ min TYS e) where
  filled_below : (i : ℕ) → i < TYS → get_or (filled w a e) i 0 ≡ get_or w i 0
  filled_below i h = grind (arith, places)

  filled_above : (i : ℕ) → UNDO-LEN ≤ i → get_or (filled w a e) i 0 ≡ get_or w i 0
  filled_above i h = grind (arith, places)

  filled_zero : (i : ℕ) → TYS ≤ i → i < UNDO-LEN → get_or (filled w a e) i 0 ≡ 0
  filled_zero i lo hi = grind (arith, places)

  filled_long : length (filled w a e) ≡ length w
  filled_long = grind (arith, places)

  pub untyped_all : {z : List ℕ} → z ≡ replicate (e - a) 0 → Untypes w 512 (put_mid a (e - a) w z)
  untyped_all q = rw q (record {
    keeps = record { below = filled_below; above = filled_above; long = filled_long };
    untyped = λ i h. filled_zero (TYS + 2 * i) (omega arith) (omega arith);
  })

-- ---- `begin`
module _ (w : List ℕ) (u : Until) {v x y w' : List ℕ} (e : v ≡ counters_w w) (U : Untypes v 512 x)
    (z : y ≡ set (set (set (set (set x PLACE 0) PLACE-HIGH 0) FULL 0) UNTIL (until_w (until_of u))) LEFT 0)
    (q : w' ≡ set (set y STOP (stop_w (until_of u))) ENTERED 0) where
  begun : Started w x
  begun = started w x (rw e at U)

  lined : Keeps PLACE STOP x y
  lined =
      let a = set x PLACE 0 in
      let b = set a PLACE-HIGH 0 in
      let c = set b FULL 0 in
      let d = set c UNTIL (until_w (until_of u)) in
      rw z (keeps_trans (keeps_set x PLACE 0 (omega arith) (omega arith))
      (keeps_trans (keeps_set a PLACE-HIGH 0 (omega arith) (omega arith)) (keeps_trans (keeps_set b FULL 0 (omega arith) (omega arith))
      (keeps_trans (keeps_set c UNTIL (until_w (until_of u)) (omega arith) (omega arith)) (keeps_set d LEFT 0 (omega arith) (omega arith))))))

  until_set : END ≤ length w → get_or y UNTIL 0 ≡ until_w (until_of u)
  until_set long =
      let c = set (set (set x PLACE 0) PLACE-HIGH 0) FULL 0 in
      let d = set c UNTIL (until_w (until_of u)) in
      let same : length c ≡ length w = length-set (set (set x PLACE 0) PLACE-HIGH 0) FULL 0 ∙ length-set (set x PLACE 0) PLACE-HIGH 0 ∙ length-set x
      PLACE 0 ∙ begun.keeps.long in
      rw z (get_or-set_other d LEFT UNTIL 0 0 (λ q. omega arith) ∙ get_or-set_same c UNTIL (until_w (until_of u)) 0 (omega (arith, same)))

  -- a zero of the first three
  stays : (j : ℕ) → j < UNTIL → get_or (set (set (set x PLACE 0) PLACE-HIGH 0) FULL 0) j 0 ≡ 0 → get_or y j 0 ≡ 0
  stays j lt h =
      let c = set (set (set x PLACE 0) PLACE-HIGH 0) FULL 0 in
      let d = set c UNTIL (until_w (until_of u)) in
      rw z (get_or-set_other d LEFT j 0 0 (λ q. omega arith) ∙ get_or-set_other c UNTIL j (until_w (until_of u)) 0 (λ q. omega arith) ∙ h)

  -- the words of the entries come after
  entries : Keeps STOP GOT y w'
  entries = rw q (keeps_trans (keeps_set y STOP (stop_w (until_of u)) (omega arith) (omega arith))
      (keeps_set (set y STOP (stop_w (until_of u))) ENTERED 0 (omega arith) (omega arith)))

  run_words : Keeps PLACE AFTER-SIDES x w'
  run_words = keeps_trans (keeps_wider (omega arith) (omega arith) lined) (keeps_wider (omega arith) (omega arith) entries)

  pub starts_run : StartsRun w u w'
  unfolding begin_until capped
  starts_run =
      let a = set x PLACE 0 in
      let b = set a PLACE-HIGH 0 in
      let low : get_or y PLACE 0 ≡ 0 = stays PLACE (omega arith) (zero_stays b FULL PLACE (zero_stays a PLACE-HIGH PLACE (zero_at x PLACE))) in
      let high : get_or y PLACE-HIGH 0 ≡ 0 = stays PLACE-HIGH (omega arith) (zero_stays b FULL PLACE-HIGH (zero_at a PLACE-HIGH)) in
      let full : get_or y FULL 0 ≡ 0 = stays FULL (omega arith) (zero_at b FULL) in
      let left : get_or y LEFT 0 ≡ 0 = rw z (zero_at (set (set b FULL 0) UNTIL (until_w (until_of u))) LEFT) in
      let s = stop_w (until_of u) in
      record {
        is = λ f. record {
          is = λ T d ceiling sound S. place_runs sound (start_runs (until_of u) ceiling sound S begun) run_words;
          lines = λ ou d ceiling long. record {
            lines = no_lines _ (entries.below PLACE (omega arith) ∙ low) (entries.below PLACE-HIGH (omega arith) ∙ high)
                (entries.below FULL (omega arith) ∙ full);
            until = entries.below UNTIL (omega arith) ∙ until_set long;
            stop = rw q (get_or-set_other (set y STOP s) ENTERED STOP 0 0 (λ q. omega arith) ∙ get_or-set_same y STOP s 0
                (omega (arith, lined.long, begun.keeps.long)));
            entered = rw q (zero_at (set y STOP s) ENTERED);
            left = entries.below LEFT (omega arith) ∙ left;
          };
          records = run_words.below RECORD-COUNT (omega arith) ∙ begun.records;
          fields = run_words.below RECORD-FIELD-COUNT (omega arith) ∙ begun.fields;
          keeps = keeps_trans begun.keeps (keeps_wider (omega arith) (omega arith) run_words);
        };
      }
