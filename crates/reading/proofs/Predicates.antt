-- A predicate line: its frame by places of the line, refused by its references, or one more predicate is held.
use mathlib.Core.Bool.{Bool, true, false, not}
use mathlib.Core.List.{List, []}
use mathlib.Core.Path.{◌≡◌, refl, sym, ap, subst, ◌∙◌}
use Prim.Native.Nat.{ℕ, zero, suc, ◌+◌, ◌*◌, ◌<◌, ◌≤◌}
use native.Mathlib.Omega.{arith}
use lib.Dec.{ltb}
use lib.ListN.{length, drop, set}
use borrow.Author.Tests.{ltb-true, lt-ltb, le-ltb}
use Rattle.work.specs.Layout.{PREDICATES}
use Rattle.cells.specs.Stands.{Rows}
use Rattle.format.specs.Refusal as Refused
use Rattle.format.specs.Frame as Frame
use Rattle.format.specs.Frame.{Frame, a_predicate, got, fails, and_then, nothing, one, pair, triple, two, entry, value_types, may_stand, kind_byte, frame_kind}
use Rattle.format.specs.Frame.{frame, frame_of}
use Rattle.format.specs.References.{optional, texts_of, name_refs, type_refs, node_refs, keys_of}
use Rattle.format.specs.SoFar.{SoFar, add, frames}
use Rattle.format.specs.Conditions.{any_of, all_below, again, refers_earlier, refers_badly, conditions, first_of}
use Rattle.format.specs.All.{Below}
use Rattle.format.proofs.Tests.{below_all}
use Rattle.frames.specs.Promises.{byte_w, half_w, value_type}
use Rattle.frames.proofs.Readers.{sized_one, sized_two}
use Rattle.frames.proofs.Statements.{choice_at}
use Rattle.work.specs.declared.Counters.{Counters}
use Rattle.reading.specs.Held.{Held}
use Rattle.reading.specs.Promises.{with_predicate, Comes, TakesAnywhere, AddsPredicate}
use Rattle.reading.proofs.Added.{value_word}
use Rattle.reading.proofs.Lines.{predicate_held}
use Rattle.reading.proofs.Order.{first_bad, first_none}
use Rattle.reading.proofs.Stepping.{refuses, goes_on, begun, predicates_room}
use Rattle.reading.proofs.Typing.{one_made, sized_got}
use Rattle.std.proofs.Math.Bool.{and-true, or-false}
use Rattle.format.specs.Frame.{Edition}
use Rattle.std.specs.Prelude.{◌&&◌, Err, None, Option, Result, Some, slice_get}
use Rattle.std.proofs.lemmas.Bool.{and_parts, and_right}
use Rattle.reading.specs.declared.Refusal.{Refusal}
use Rattle.tree.proofs.LineParts.{whole_got}

-- What the bytes from 5 on say of the value type.
pub data ValueAt (s : List ℕ) : Option ℕ → Type 0 where
  absent : byte_w s 5 ≡ 0 → ValueAt s None
  present : byte_w s 5 ≡ 1 → ValueAt s (Some (half_w s 6))

module _ (ed : Edition) (so : SoFar) (s : List ℕ) (fr : Frame) (long : 6 ≤ length s) (k : Comes ed so Frame.predicate s fr) where
  chosen : (v : Option ℕ) × (entry (slice_get value_types (byte_w s 5)) (drop 6 s) ≡ got v []) × (fr ≡ a_predicate (half_w s 1) (half_w s 3) v)
  unfolding frame_of frame triple pair one and_then
  chosen =
      let a = sized_two.reads s 1 (omega arith) in
      let b = sized_two.reads s 3 (omega arith) in
      let e = whole_got (triple a_predicate two two value_type (drop 1 s)) fr k.is in
      let f : and_then (value_type (drop 5 s)) (λ v. got (a_predicate (half_w s 1) (half_w s 3) v)) ≡ got fr [] = rw (a, b) at e in
      let o = one_made (a_predicate (half_w s 1) (half_w s 3)) (value_type (drop 5 s)) fr [] f in
      (o.0, sym (choice_at value_types s 5 (omega arith)) ∙ o.1, o.2)

  pub value_at : (v : Option ℕ) × (fr ≡ a_predicate (half_w s 1) (half_w s 3) v) × ValueAt s v
  unfolding entry value_types nothing
  value_at = go (byte_w s 5) refl chosen
    where
      go : (b : ℕ) → byte_w s 5 ≡ b → (v : Option ℕ) × (entry (slice_get value_types (byte_w s 5)) (drop 6 s) ≡ got v []) ×
          (fr ≡ a_predicate (half_w s 1) (half_w s 3) v) → (v : Option ℕ) × (fr ≡ a_predicate (half_w s 1) (half_w s 3) v) × ValueAt s v
      go zero e c =
          let x : got None (drop 6 s) ≡ got c.0 [] = rw (e, entry) at c.1 in
          let z : c.0 ≡ None = cc in
          (None, c.2 ∙ ap (a_predicate (half_w s 1) (half_w s 3)) z, absent e)
      go (suc zero) e c =
          let x : one Some two (drop 6 s) ≡ got c.0 [] = rw (e, entry) at c.1 in
          let z = sized_got (sized_one Some sized_two) s 6 c.0 [] long x in
          (Some (half_w s 6), c.2 ∙ ap (a_predicate (half_w s 1) (half_w s 3)) z, present e)
      go (suc (suc n)) e c =
          let x : fails ≡ got c.0 [] = rw (e, entry) at c.1 in
          let z : ◌≡◌ {A = ℕ} 0 1 = cc in
          absurd (omega arith)

-- ---- References

predicate_refers : (so : SoFar) (n key : ℕ) (v : Option ℕ) → refers_badly so (a_predicate n key v) ≡ not
    (ltb n (length so.names) && (ltb key (length so.types) && all_below (length so.types) (optional v)))
unfolding refers_badly refers_earlier name_refs type_refs node_refs all_below again
predicate_refers so n key v =
    or-false (not ((ltb n (length so.names) && true) && ((ltb key (length so.types) && all_below (length so.types) (optional v)) && true)))
    ∙ ap not (ap (λ b. (b && ((ltb key (length so.types) && all_below (length so.types) (optional v)) && true)))
    (and-true (ltb n (length so.names))) ∙ ap (λ b. ltb n (length so.names) && b)
    (and-true (ltb key (length so.types) && all_below (length so.types) (optional v))))

pub value_none : (s : List ℕ) → byte_w s 5 ≡ 0 → (u : Option ℕ) → ValueAt s u → u ≡ None
value_none s e None (absent a) = refl
value_none s e (Some t) (present a) = absurd (omega arith)

pub value_some : (s : List ℕ) → (byte_w s 5 ≡ 0 → ⊥) → (u : Option ℕ) → ValueAt s u → u ≡ Some (half_w s 6)
value_some s n None (absent a) = absurd (n a)
value_some s n (Some t) (present a) = refl

-- ---- The ends of a predicate line

module _ (ed : Edition) (s w : List ℕ) (c : Counters) (long : 6 ≤ length s) where
  -- what is there, by the counters
  abbrev there : Option ℕ → Bool
  there v = ltb (half_w s 1) c.names && (ltb (half_w s 3) c.types && all_below c.types (optional v))

  refers : {f : List ℕ} {at : ℕ} {T : Rows} {previous : Option Frame.Kind} {so : SoFar} → Held ed f at w T c previous so
      → (v : Option ℕ) (b : Bool) → there v ≡ b
      → refers_badly so (a_predicate (half_w s 1) (half_w s 3) v) ≡ not b
  refers {so = so} h v b e =
      let q : (ltb (half_w s 1) (length so.names) && (ltb (half_w s 3) (length so.types) && all_below (length so.types) (optional v))) ≡
      b = rw (← h.names.count, ← h.types.count) e in
      predicate_refers so (half_w s 1) (half_w s 3) v ∙ ap not q

  pub predicate_bad : ((v : Option ℕ) → ValueAt s v → there v ≡ false) → TakesAnywhere ed Frame.predicate s w c w (Err Refusal.BadReference)
  unfolding frame_kind texts_of any_of
  predicate_bad e = record {
    is = λ f at. record {
      is = λ next T previous so fr h l k.
          let x = value_at ed so s fr long k in
          refuses ed f next w (Some Frame.predicate) (add so fr) Refusal.BadReference _
          (subst (λ y. first_of conditions so (frames y) ≡ Some Refused.bad_reference) (sym x.1)
          (first_bad so (a_predicate (half_w s 1) (half_w s 3) x.0) k.placed k.room k.turn refl refl (refers h x.0 false (e x.0 x.2))));
    };
  }

  pub predicate_takes : (v : Option ℕ) → ((u : Option ℕ) → ValueAt s u → u ≡ v) → there v ≡ true → (w' : List ℕ) (r : Result Counters Refusal) (x : ℕ)
      → x ≡ half_w s 1 * 131072 + half_w s 3 * 512 + value_word v → AddsPredicate w c x w' r → TakesAnywhere ed Frame.predicate s w c w' r
  unfolding frame_kind texts_of any_of keys_of again may_stand
  predicate_takes v va e w' r y z a = record {
    is = λ f at. record {
      is = λ next T previous so fr h l k.
          let x = value_at ed so s fr long k in
          let same : fr ≡ a_predicate (half_w s 1) (half_w s 3) v = x.1 ∙ ap (a_predicate (half_w s 1) (half_w s 3)) (va x.0 x.2) in
          let b = begun so.previous Frame.predicate k.placed refl in
          let types = (and_parts (ltb (half_w s 1) c.names) (ltb (half_w s 3) c.types && all_below c.types (optional v)) e).1 in
          let key = ltb-true (half_w s 3) c.types (and_parts (ltb (half_w s 3) c.types) (all_below c.types (optional v)) types).0 in
          let value = below_all c.types (optional v) (and_parts (ltb (half_w s 3) c.types) (all_below c.types (optional v)) types).1 in
          rw (a.step, a.words, z, same)
          (goes_on ed f next (set w (PREDICATES + c.predicates) (half_w s 1 * 131072 + half_w s 3 * 512 + value_word v)) (Some Frame.predicate)
          (add so (a_predicate (half_w s 1) (half_w s 3) v)) (with_predicate c) T _
          (first_none so (a_predicate (half_w s 1) (half_w s 3) v) k.placed k.room k.turn refl refl (refers h v true e) refl)
          (predicate_held ed h next (omega (arith, l.on)) l.within (half_w s 1) (half_w s 3) v b.0 k.placed b.1
          (predicates_room so k.room) (omega (arith, h.types.count)) (subst (λ n. Below n (optional v)) h.types.count value)));
    };
  }

  pub no_name : c.names ≤ half_w s 1 → (v : Option ℕ) → there v ≡ false
  no_name h v = rw (le-ltb (half_w s 1) c.names h)

  pub no_key : c.types ≤ half_w s 3 → (v : Option ℕ) → there v ≡ false
  no_key h v = rw (le-ltb (half_w s 3) c.types h) (and_right (ltb (half_w s 1) c.names) false refl)

  pub no_value_lem : (byte_w s 5 ≡ 0 → ⊥) → c.types ≤ half_w s 6 → (v : Option ℕ) → ValueAt s v → there v ≡ false
  unfolding all_below optional
  no_value_lem n h None (absent a) = absurd (n a)
  no_value_lem n h (Some t) (present a) = rw (le-ltb (half_w s 6) c.types h)
      (ap (λ b. ltb (half_w s 1) c.names && b) (and_right (ltb (half_w s 3) c.types) false refl) ∙ and_right (ltb (half_w s 1) c.names) false refl)

  all_there : half_w s 1 < c.names → half_w s 3 < c.types → (v : Option ℕ) → all_below c.types (optional v) ≡ true → there v ≡ true
  all_there a b v e = rw (lt-ltb (half_w s 1) c.names a, lt-ltb (half_w s 3) c.types b) e

  pub none_there : half_w s 1 < c.names → half_w s 3 < c.types → there None ≡ true
  unfolding all_below optional
  none_there a b = all_there a b None refl

  pub some_there : half_w s 1 < c.names → half_w s 3 < c.types → half_w s 6 < c.types → there (Some (half_w s 6)) ≡ true
  unfolding all_below optional
  some_there a b t = all_there a b (Some (half_w s 6)) (rw (lt-ltb (half_w s 6) c.types t))
