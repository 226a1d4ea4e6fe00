-- None of the conditions holds of a frame exactly where it obeys the rules.
use mathlib.Core.Bool.{Bool, true, false, not, ◌||◌}
use mathlib.Core.List.{List, [], ◌∷◌}
use mathlib.Core.Path.{◌≡◌, refl, sym, ap}
use Prim.Native.Nat.{ℕ}
use native.Mathlib.Omega.{arith}
use lib.ListN.{length}
use borrow.Author.Tests.{leb-false, lt-leb, not-false}
use Rattle.text.specs.Utf8.{Text, characters}
use Rattle.text.proofs.Grammar.{counts}
use Rattle.format.specs.Frame.{Kind, limits, name, schema_type, predicate, node, query, may_stand, Frame, frame_kind}
use Rattle.format.specs.References.{name_refs, type_refs, node_refs, texts_of, keys_of}
use Rattle.format.specs.SoFar.{SoFar, Said, frames}
use Rattle.format.specs.Conditions.{all_below, again, given, max_names, max_types, max_predicates, max_nodes, max_queries, is_malformed, is_misplaced}
use Rattle.format.specs.Conditions.{is_full, is_one_too_many, is_last_query_past, is_query_too_many, is_no_frame, of_frame, broken, is_broken_text}
use Rattle.format.specs.Conditions.{is_name_given_before, refers_earlier, refers_badly, is_bad_reference, is_repeated_key, Condition, conditions, first_of}
use Rattle.format.specs.All.{All, Absent}
use Rattle.format.proofs.Obeys.{Room, Obeys}
use Rattle.format.proofs.Lists.{empty_absent}
use Rattle.format.proofs.Tests.{cases, clash, none_passes, passes_none, below_all, all_below_lem, again_new, again_distinct, new_again}
use Rattle.format.proofs.Tests.{given_absent, absent_given}
use Rattle.std.specs.Prelude.{None, Option, Some}
use Rattle.std.proofs.lemmas.Bool.{and_parts, and_from}

-- ---- No condition of a list holds

pub none_holds : (cs : List Condition) (so : SoFar) (l : Said) → first_of cs so l ≡ None → All (λ c. c.holds so l ≡ false) cs
unfolding first_of
none_holds [] so l e = tt
none_holds (c ∷ cs) so l e = cases (c.holds so l)
    (λ q. let z : Some c.refusal ≡ None = rw (q, first_of) at e in let w : ◌≡◌ {A = ℕ} 0 1 = cc in absurd (omega arith))
    (λ q. (q, none_holds cs so l (rw (q, first_of) at e)))

pub holds_none : (cs : List Condition) (so : SoFar) (l : Said) → All (λ c. c.holds so l ≡ false) cs → first_of cs so l ≡ None
unfolding first_of
holds_none [] so l a = refl
holds_none (c ∷ cs) so l a = rw (a.0, first_of) (holds_none cs so l a.1)

-- One that does not hold leaves it to those after it.
pub passed : (c : Condition) (cs : List Condition) (so : SoFar) (l : Said) → c.holds so l ≡ false → first_of (c ∷ cs) so l ≡ first_of cs so l
unfolding first_of
passed c cs so l e = rw (e, first_of)

-- ---- The parts of the rules

room : (so : SoFar) (k : Kind) → is_full so k ≡ false → is_last_query_past so k ≡ false → Room so k
unfolding is_full is_last_query_past
room so limits h q = tt
room so name h q = leb-false max_names (length so.names) h
room so schema_type h q = leb-false max_types (length so.types) h
room so predicate h q = leb-false max_predicates (length so.predicates) h
room so node h q = leb-false max_nodes (length so.nodes) h
room so query h q = leb-false max_queries (length so.queries) q

full : (so : SoFar) (k : Kind) → Room so k → is_full so k ≡ false
unfolding is_full
full so limits h = refl
full so name h = lt-leb max_names (length so.names) h
full so schema_type h = lt-leb max_types (length so.types) h
full so predicate h = lt-leb max_predicates (length so.predicates) h
full so node h = lt-leb max_nodes (length so.nodes) h
full so query h = refl

last_past : (so : SoFar) (k : Kind) → Room so k → is_last_query_past so k ≡ false
unfolding is_last_query_past
last_past so limits h = refl
last_past so name h = refl
last_past so schema_type h = refl
last_past so predicate h = refl
last_past so node h = refl
last_past so query h = lt-leb max_queries (length so.queries) h

abbrev pub Readable : List ℕ → Type 0
Readable s = (n : ℕ) × Text s n

pub readable : (s : List ℕ) → broken s ≡ false → Readable s
unfolding broken
readable s h = go (characters s) refl
  where
    go : (o : Option ℕ) → characters s ≡ o → Readable s
    go None q = clash (rw (q, broken) at h)
    go (Some n) q = (n, (counts s n).1 q)

pub unbroken : (s : List ℕ) → Readable s → broken s ≡ false
unfolding broken
unbroken s h = rw ((counts s h.0).0 h.1, broken)

-- ---- The whole

not_or : (a b : Bool) → (not a || b) ≡ false → (a ≡ true) × (b ≡ false)
not_or true b h = (refl, h)
not_or false b h = clash h

or_not : (a b : Bool) → a ≡ true → b ≡ false → (not a || b) ≡ false
or_not true b p q = q
or_not false b p q = clash (sym p)

pub obeys : (so : SoFar) (f : Frame) → first_of conditions so (frames f) ≡ None → Obeys so f
unfolding conditions is_misplaced is_one_too_many is_query_too_many is_broken_text is_name_given_before is_bad_reference is_repeated_key of_frame refers_earlier
    refers_badly
obeys so f e =
    record {
      placed = not-false (may_stand so.previous (frame_kind f)) a.1.0;
      room = room so (frame_kind f) a.1.1.0 a.1.1.1.0;
      text = none_passes broken Readable readable (texts_of f) a.1.1.1.1.1.0;
      new = none_passes (given so.names) (λ s. Absent s so.names) (given_absent so.names) (texts_of f) a.1.1.1.1.1.1.0;
      names = below_all (length so.names) (name_refs f) (and_parts _ _ earlier).0;
      types = below_all (length so.types) (type_refs f) (and_parts _ _ ((and_parts (all_below (length so.names) (name_refs f)) _ earlier).1)).0;
      nodes = below_all (length so.nodes) (node_refs f)
          ((and_parts (all_below (length so.types) (type_refs f)) _ ((and_parts (all_below (length so.names) (name_refs f)) _ earlier).1)).1);
      unnamed = again_new so.named (node_refs f) once;
      once = again_distinct so.named (node_refs f) once;
      keys = again_distinct [] (keys_of f) a.1.1.1.1.1.1.1.1.0;
    }
  where
    a : All (λ c. c.holds so (frames f) ≡ false) conditions
    a = none_holds conditions so (frames f) e

    earlier : refers_earlier so f ≡ true
    earlier = (not_or (refers_earlier so f) (again so.named (node_refs f)) a.1.1.1.1.1.1.1.0).0

    once : again so.named (node_refs f) ≡ false
    once = (not_or (refers_earlier so f) (again so.named (node_refs f)) a.1.1.1.1.1.1.1.0).1

pub no_condition : (so : SoFar) (f : Frame) → Obeys so f → first_of conditions so (frames f) ≡ None
unfolding conditions is_malformed is_misplaced is_one_too_many is_query_too_many is_no_frame is_broken_text is_name_given_before is_bad_reference
    is_repeated_key of_frame refers_earlier refers_badly
no_condition so f o =
    holds_none conditions so (frames f) (
      refl,
      (ap not o.placed, (full so (frame_kind f) o.room, (last_past so (frame_kind f) o.room, (refl, (text, (new, (reference, (keys, tt)))))))),
    )
  where
    earlier : refers_earlier so f ≡ true
    earlier = and_from _ _ (all_below_lem (length so.names) (name_refs f) o.names)
        (and_from _ _ (all_below_lem (length so.types) (type_refs f) o.types) (all_below_lem (length so.nodes) (node_refs f) o.nodes))

    text : is_broken_text so (frames f) ≡ false
    text = passes_none broken Readable unbroken (texts_of f) o.text

    new : is_name_given_before so (frames f) ≡ false
    new = passes_none (given so.names) (λ s. Absent s so.names) (absent_given so.names) (texts_of f) o.new

    reference : is_bad_reference so (frames f) ≡ false
    reference = or_not (refers_earlier so f) (again so.named (node_refs f)) earlier (new_again so.named (node_refs f) o.unnamed o.once)

    keys : is_repeated_key so (frames f) ≡ false
    keys = new_again [] (keys_of f) (empty_absent (keys_of f)) o.keys
