-- The walk through both files, a line of each: what is asked of all frames is asked of those that are left.
use mathlib.Core.Bool.{Bool, false}
use mathlib.Core.List.{List, [], ◌∷◌, map}
use mathlib.Core.Logic.{inl, inr}
use mathlib.Core.Path.{◌≡◌, refl, sym, ap, subst, ◌∙◌}
use Prim.Native.Nat.{ℕ, ◌≤◌, ◌<◌}
use native.Mathlib.Omega.{arith}
use lib.Dec.{leb, eqb}
use lib.ListN.{length, get_or, take, drop, length-drop}
use borrow.Author.Tests.{leb-true, leb-false, le-leb, lt-leb}
use Rattle.format.specs.Lines.{Line, closed, unclosed, LF, in_front, lines}
use Rattle.format.specs.Frame.{wide, kind_byte, Frame}
use Rattle.format.specs.SoFar.{frames, said}
use Rattle.format.specs.Writing.{written, Writable}
use Rattle.format.proofs.Tests.{cases, clash}
use lib.Pointwise.{pointwise}
use Rattle.std.proofs.lemmas.Bool.Decides.{Decides-eqb}
use Rattle.std.proofs.lemmas.Slice.Eq.{slice_eq-Decides}
use Rattle.format.proofs.Hex.{hexes}
use Rattle.format.proofs.Written.{says}
use Rattle.frames.specs.Promises.{byte_w, BytesAt, MalformedAt}
use Rattle.convert.specs.Lines.{LinesAre}
use Rattle.convert.proofs.Walking.{step, no_bad, at_end_lem}
use Rattle.growth.specs.declared.Beside.{Beside}
use Rattle.growth.specs.declared.Beside.TheVariants.{Same, Added, Other}
use Rattle.growth.specs.Lines.{kind_of, Addition, WithAdditions, IsBeside, TellsBeside, TellsAdded}

-- ---- Two lines

-- Frames that are written alike are one frame.
same_frame : (f g : Frame) → Writable wide f → Writable wide g → written wide f ≡ written wide g → f ≡ g
same_frame f g p q e = let s : frames f ≡ frames g = sym (says wide f p) ∙ ap (λ s. said wide (closed (hexes s))) e ∙ says wide g q in cc

-- The first byte of a written frame is its kind's.
first_byte : (f : Frame) (s : List ℕ) → s ≡ written wide f → byte_w s 0 ≡ kind_of f
unfolding written
first_byte f s e = ap (λ s. get_or s 0 0) e

pub unequal : {a b : List ℕ} {r : Bool} → r ≡ pointwise eqb a b → r ≡ false → a ≡ b → ⊥
unequal {a} {b} {r} e q s = clash (sym ((slice_eq-Decides Decides-eqb a b r e).1 s) ∙ q)

module _ {a b : List ℕ} where
  pub beside_same : a ≡ b → TellsBeside a b Same
  beside_same e = record { is = λ f g v w p o. same_frame f g p o (sym v ∙ e ∙ w) }

  pub beside_added : 2 ≤ byte_w b 0 → byte_w b 0 ≤ 4 → byte_w b 0 < byte_w a 0 → TellsBeside a b Added
  unfolding kind_byte
  beside_added l m k = record {
    is = λ f g v w p o.
        let x = first_byte f a v in
        let y = first_byte g b w in
        record { least = omega (arith, l, y); most = omega (arith, m, y); later = omega (arith, k, x, y) };
  }

  pub beside_other : (a ≡ b → ⊥) → (2 ≤ byte_w b 0 → byte_w b 0 ≤ 4 → byte_w b 0 < byte_w a 0 → ⊥) → TellsBeside a b Other
  unfolding kind_byte
  beside_other d n = record {
    is = λ f g v w p o.
        let x = first_byte f a v in
        let y = first_byte g b w in
        (λ e. d (v ∙ ap (written wide) e ∙ sym w), λ k. n (omega (arith, k.least, y)) (omega (arith, k.most, y)) (omega (arith, k.later, x, y)));
  }

-- ---- All lines

-- The frames that are left of both files, which are additions to each other exactly where all of them are.
pub record Left (old new : List ℕ) (i j : ℕ) (fs gs : List Frame) : Type 0 where
  pub olds : List Frame
  pub news : List Frame
  pub old_are : LinesAre wide (drop i old) olds
  pub new_are : LinesAre wide (drop j new) news
  pub to : WithAdditions fs gs → WithAdditions olds news
  pub back : WithAdditions olds news → WithAdditions fs gs

pub record Walking (old new : List ℕ) (i j : ℕ) : Type 0 where
  pub left : (fs gs : List Frame) → LinesAre wide old fs → LinesAre wide new gs → Left old new i j fs gs

some_line : (s : List ℕ) → 0 < length s → lines s ≡ [] → ⊥
unfolding lines in_front
some_line [] l e = omega arith
some_line (b ∷ s) l e = cases (eqb b LF)
    (λ q. let c : closed [] ∷ lines s ≡ [] = sym (rw (q, lines)) ∙ e in let z : ◌≡◌ {A = ℕ} 0 1 = cc in omega arith)
    (λ q. let c : in_front b (lines s) ≡ [] = sym (rw (q, lines)) ∙ e in go (lines s) c)
  where
    go : (ls : List Line) → in_front b ls ≡ [] → ⊥
    go [] c = let z : ◌≡◌ {A = ℕ} 0 1 = cc in omega arith
    go (closed t ∷ ls) c = let z : ◌≡◌ {A = ℕ} 0 1 = cc in omega arith
    go (unclosed t ∷ ls) c = let z : ◌≡◌ {A = ℕ} 0 1 = cc in omega arith

some_left : (f : List ℕ) (at : ℕ) → at < length f → LinesAre wide (drop at f) [] → ⊥
some_left f at l a = go (lines (drop at f)) refl a
  where
    go : (ls : List Line) → lines (drop at f) ≡ ls → map (said wide) ls ≡ [] → ⊥
    go [] e h = some_line (drop at f) (omega (arith, length-drop at f)) e
    go (x ∷ ls) e h = let z : ◌≡◌ {A = ℕ} 0 1 = cc in omega arith

module _ {old new : List ℕ} {i j : ℕ} (c : Walking old new i j) where
  -- by what is left
  never : ((olds news : List Frame) → LinesAre wide (drop i old) olds → LinesAre wide (drop j new) news → WithAdditions olds news → ⊥)
      → TellsAdded old new false
  never n = record {
    added = λ fs gs a b q. let z : ◌≡◌ {A = ℕ} 0 1 = cc in absurd (omega arith);
    other = λ fs gs a b q h. let k = c.left fs gs a b in n k.olds k.news k.old_are k.new_are (k.to h);
  }

  pub walking_bad_new : MalformedAt new j → TellsAdded old new false
  walking_bad_new m = never (λ olds news a b h. no_bad wide m news b)

  pub walking_bad_old : MalformedAt old i → TellsAdded old new false
  walking_bad_old m = never (λ olds news a b h. no_bad wide m olds a)

  -- the old file has ended
  pub walking_longer : length old ≤ i → j < length new → TellsAdded old new false
  walking_longer l m = never (λ olds news a b h. go olds (at_end_lem wide old i l olds a) news b h)
    where
      go : (olds : List Frame) → olds ≡ [] → (news : List Frame) → LinesAre wide (drop j new) news → WithAdditions olds news → ⊥
      go [] e [] b h = some_left new j m b
      go [] e (g ∷ gs) b h = h
      go (f ∷ fs) e news b h = let z : ◌≡◌ {A = ℕ} 0 1 = cc in omega arith

  -- the new file has ended
  pub walking_done : length new ≤ j → TellsAdded old new (leb (length old) i)
  walking_done m = cases (leb (length old) i)
      (λ q. subst (TellsAdded old new) (sym q) (record {
        added = λ fs gs a b r.
            let k = c.left fs gs a b in
            let no_old = at_end_lem wide old i (leb-true (length old) i q) k.olds k.old_are in
            k.back (both k.olds k.news no_old (at_end_lem wide new j m k.news k.new_are));
        other = λ fs gs a b r h. let z : ◌≡◌ {A = ℕ} 0 1 = cc in omega arith;
      }))
      (λ q. subst (TellsAdded old new) (sym q) (never (λ olds news a b h. shorter olds news (at_end_lem wide new j m news b) (leb-false (length old) i q) a h)))
    where
      both : (olds news : List Frame) → olds ≡ [] → news ≡ [] → WithAdditions olds news
      both [] [] e d = tt
      both (f ∷ fs) news e d = let z : ◌≡◌ {A = ℕ} 0 1 = cc in absurd (omega arith)
      both [] (g ∷ gs) e d = let z : ◌≡◌ {A = ℕ} 0 1 = cc in absurd (omega arith)

      shorter : (olds news : List Frame) → news ≡ [] → i < length old → LinesAre wide (drop i old) olds → WithAdditions olds news → ⊥
      shorter [] news e l a h = some_left old i l a
      shorter (f ∷ fs) [] e l a h = h
      shorter (f ∷ fs) (g ∷ gs) e l a h = let z : ◌≡◌ {A = ℕ} 0 1 = cc in omega arith

  -- a line of the new file, and no further one of the old
  pub walking_none : (i < length old → MalformedAt old i) → {b : List ℕ} {m after : ℕ} → BytesAt new j b m after → TellsAdded old new false
  walking_none fails e = cases (leb (length old) i)
      (λ q. walking_longer (leb-true (length old) i q) (omega (arith, e.on, e.within)))
      (λ q. walking_bad_old (fails (leb-false (length old) i q)))

  -- no further line of the new file
  module _ (fails : j < length new → MalformedAt new j) where
    pub walking_ended : length old ≤ i → TellsAdded old new (leb (length new) j)
    walking_ended l = cases (leb (length new) j)
        (λ q. rw q (rw (le-leb (length old) i l) at (walking_done (leb-true (length new) j q))))
        (λ q. rw q (walking_bad_new (fails (leb-false (length new) j q))))

    pub walking_left : i < length old → TellsAdded old new (leb (length old) i)
    walking_left l = cases (leb (length new) j)
        (λ q. walking_done (leb-true (length new) j q))
        (λ q. rw (lt-leb (length old) i l) (walking_bad_new (fails (leb-false (length new) j q))))

  module _ {a b : List ℕ} {n next m after : ℕ} (d : BytesAt old i a n next) (e : BytesAt new j b m after) where
    -- a line of each
    record Turn (r : Beside) (fs gs : List Frame) : Type 0 where
      left : Frame
      right : Frame
      is : IsBeside left right r
      olds : List Frame
      news : List Frame
      old_are : LinesAre wide (drop next old) olds
      new_are : LinesAre wide (drop after new) news
      both_are : LinesAre wide (drop i old) (left ∷ olds)
      to : WithAdditions fs gs → WithAdditions (left ∷ olds) (right ∷ news)
      back : WithAdditions (left ∷ olds) (right ∷ news) → WithAdditions fs gs

    turn : (r : Beside) → TellsBeside (take n a) (take m b) r → (fs gs : List Frame) → LinesAre wide old fs → LinesAre wide new gs → Turn r fs gs
    turn r t fs gs u v =
        let k = c.left fs gs u v in
        let x = step wide d k.olds k.old_are in
        let y = step wide e k.news k.new_are in
        record {
          left = x.first;
          right = y.first;
          is = t.is x.first y.first x.bytes y.bytes x.writable y.writable;
          olds = x.rest;
          news = y.rest;
          old_are = x.later;
          new_are = y.later;
          both_are = subst (LinesAre wide (drop i old)) x.are k.old_are;
          to = λ h. subst (λ l. WithAdditions (x.first ∷ x.rest) l) y.are (subst (λ l. WithAdditions l k.news) x.are (k.to h));
          back = λ h. k.back (subst (λ l. WithAdditions l k.news) (sym x.are) (subst (λ l. WithAdditions (x.first ∷ x.rest) l) (sym y.are) h));
        }

    pub walking_same : TellsBeside (take n a) (take m b) Same → Walking old new next after
    walking_same t = record {
      left = λ fs gs u v. let k = turn Same t fs gs u v in record {
        olds = k.olds;
        news = k.news;
        old_are = k.old_are;
        new_are = k.new_are;
        to = λ h. past k.left k.right k.is k.olds k.news (k.to h);
        back = λ h. k.back (inl (k.is, h));
      };
    }
      where
        past : (f g : Frame) → f ≡ g → (fs gs : List Frame) → WithAdditions (f ∷ fs) (g ∷ gs) → WithAdditions fs gs
        past f g q fs gs (inl h) = h.1
        past f g q fs gs (inr h) = absurd (omega (arith, h.0.later, ap kind_of q))

    pub walking_added : TellsBeside (take n a) (take m b) Added → Walking old new i after
    walking_added t = record {
      left = λ fs gs u v. let k = turn Added t fs gs u v in record {
        olds = k.left ∷ k.olds;
        news = k.news;
        old_are = k.both_are;
        new_are = k.new_are;
        to = λ h. past k.left k.right k.is k.olds k.news (k.to h);
        back = λ h. k.back (inr (k.is, h));
      };
    }
      where
        past : (f g : Frame) → Addition f g → (fs gs : List Frame) → WithAdditions (f ∷ fs) (g ∷ gs) → WithAdditions (f ∷ fs) gs
        past f g q fs gs (inl h) = absurd (omega (arith, q.later, ap kind_of h.0))
        past f g q fs gs (inr h) = h.1

    pub walking_other : TellsBeside (take n a) (take m b) Other → TellsAdded old new false
    walking_other t = record {
      added = λ fs gs u v q. let z : ◌≡◌ {A = ℕ} 0 1 = cc in absurd (omega arith);
      other = λ fs gs u v q h. let k = turn Other t fs gs u v in past k.left k.right k.is k.olds k.news (k.to h);
    }
      where
        past : (f g : Frame) → IsBeside f g Other → (fs gs : List Frame) → WithAdditions (f ∷ fs) (g ∷ gs) → ⊥
        past f g q fs gs (inl h) = q.0 h.0
        past f g q fs gs (inr h) = q.1 h.0
