-- A line of any kind: refused by its place, its number or its form, or taken as a frame of its kind.
use mathlib.Core.Bool.{Bool, true, false}
use mathlib.Core.List.{List, [], ◌∷◌}
use mathlib.Core.Path.{◌≡◌, refl, sym, ap, subst, ◌∙◌}
use Prim.Native.Nat.{ℕ, ◌<◌, ◌≤◌}
use native.Mathlib.Omega.{arith}
use lib.Dec.{leb, ltb}
use lib.ListN.{length, drop, set}
use borrow.Author.Tests.{ltb-true, ltb-false, leb-false}
use Rattle.work.specs.Layout.{MAX-DISTANCE, MAX-TERM}
use Rattle.cells.specs.Stands.{Rows}
use Rattle.format.specs.Refusal as Refused
use Rattle.format.specs.Frame as Frame
use Rattle.format.specs.Frame.{Kind, Frame, the_limits, a_name, a_type, a_predicate, a_node, the_query, Got, got, fails, Reader, and_then, one, pair, triple}
use Rattle.format.specs.Frame.{byte, two, rest, choice, type_shapes, value_types, span_and_kind, head_and_body, may_stand, kind_byte, kind_of, frame_kind}
use Rattle.format.specs.Frame.{frame}
use Rattle.format.specs.Frame.{frame_of}
use Rattle.format.specs.References.{texts_of, name_refs, type_refs, node_refs, keys_of}
use Rattle.format.specs.SoFar.{SoFar, said_of, said_in, said_by, frames, add, after}
use Rattle.format.specs.Conditions.{any_of, all_below, again, max_names, max_types, max_predicates, max_nodes, max_queries, is_full, is_last_query_past}
use Rattle.format.specs.Conditions.{refers_earlier, refers_badly, conditions, first_of}
use Rattle.format.proofs.Tests.{cases, clash}
use Rattle.format.proofs.Written.{kind_byte_lem}
use Rattle.frames.specs.declared.Kind as Coded
use Rattle.frames.specs.declared.Kind.TheVariants as Code
use Rattle.frames.specs.Promises.{kind_meant, known, stands, byte_w, half_w, is_some, is_frame}
use Rattle.frames.proofs.Readers.{sized_pair, sized_byte, sized_two}
use Rattle.frames.proofs.Shapes.{type_short, predicate_short, node_short}
use Rattle.reading.specs.declared.Refusal.{Refusal}
use Rattle.work.specs.declared.Counters.{Counters}
use Rattle.reading.specs.Held.{Held}
use Rattle.reading.specs.Prints.{Printed}
use Rattle.reading.specs.Promises.{LineAt, Comes, LineEnds, Takes, TakesAnywhere, TakesName, full_of, past_of, TakesLine}
use Rattle.reading.proofs.Naming.{name_frame}
use Rattle.reading.proofs.Prints.{no_step, printed_added, is_other, same_names}
use Rattle.reading.proofs.Lines.{limits_held}
use Rattle.reading.proofs.Order.{first_unknown, first_misplaced, first_too_many, first_too_many_queries, first_no_frame, first_none}
use Rattle.reading.proofs.Stepping.{refuses, goes_on}
use Rattle.reading.proofs.Typing.{sized_got}
use Rattle.format.specs.Frame.{Edition}
use Rattle.std.specs.Prelude.{Err, None, Ok, Option, Result, Some}
use Rattle.tree.proofs.LineParts.{whole_got}

-- ---- The limits

limits_frame : (ed : Edition) (s : List ℕ) (fr : Frame) → 0 < length s → frame_of ed Frame.limits (drop 1 s) ≡ Some fr
    → fr ≡ the_limits (byte_w s 1) (half_w s 2)
unfolding frame_of frame
limits_frame ed s fr l e = sized_got (sized_pair the_limits sized_byte sized_two) s 1 fr [] l (whole_got (pair the_limits byte two (drop 1 s)) fr e)

pub limits_takes : (ed : Edition) (s w w' : List ℕ) (c : Counters) (d t : ℕ) → d ≡ byte_w s 1 → t ≡ half_w s 2
    → w' ≡ set (set w MAX-DISTANCE d) MAX-TERM t → TakesAnywhere ed Frame.limits s w c w' (Ok c)
unfolding frame_kind texts_of any_of kind_byte keys_of again refers_badly refers_earlier name_refs type_refs node_refs all_below
limits_takes ed s w w' c d t p q e = record {
  is = λ f at. record {
    is = λ next T previous so fr h l k.
        rw (e, p, q, limits_frame ed s fr l.some k.is)
        (goes_on ed f next (set (set w MAX-DISTANCE (byte_w s 1)) MAX-TERM (half_w s 2)) (Some Frame.limits)
        (add so (the_limits (byte_w s 1) (half_w s 2))) c T _
        (first_none so (the_limits (byte_w s 1) (half_w s 2)) k.placed k.room k.turn refl refl refl refl)
        (limits_held ed h next (omega (arith, l.on)) l.within (byte_w s 1) (half_w s 2) k.placed));
  };
}

-- ---- A frame is of the kind whose reader made it

Made : Kind → Got Frame → Type 0
Made k g = (fr : Frame) (t : List ℕ) → g ≡ got fr t → frame_kind fr ≡ k

made : (k : Kind) (fr : Frame) (t : List ℕ) → frame_kind fr ≡ k → Made k (got fr t)
unfolding Made
made k fr t e fr' t' q = let same : fr ≡ fr' = cc in rw same at e

made_then : {A : Type 0} (k : Kind) (g : Got A) (next : A → Reader Frame) → ((a : A) (t : List ℕ) → Made k (next a t)) → Made k (and_then g next)
unfolding Made and_then
made_then k (got a t) next h = h a t
made_then k fails next h = λ fr t e. let z : ◌≡◌ {A = ℕ} 0 1 = cc in absurd (omega arith)

made_one : {A : Type 0} (k : Kind) (make : A → Frame) (r : Reader A) (s : List ℕ) → ((a : A) → frame_kind (make a) ≡ k) → Made k (one make r s)
unfolding one
made_one k make r s h = made_then k (r s) (λ a. got (make a)) (λ a t. made k (make a) t (h a))

frame_made : (ed : Edition) (k : Kind) (s : List ℕ) → Made k (frame ed k s)
unfolding frame pair triple frame_kind
frame_made ed Frame.limits s = made_then _ (byte s) _ (λ a t. made_one _ _ two t (λ b. refl))
frame_made ed Frame.name s = made_one _ a_name rest s (λ a. refl)
frame_made ed Frame.schema_type s = made_one _ a_type (choice (type_shapes ed)) s (λ a. refl)
frame_made ed Frame.predicate s = made_then _ (two s) _ (λ a t. made_then _ (two t) _ (λ b u. made_one _ (a_predicate a b) (choice value_types) u (λ v. refl)))
frame_made ed Frame.node s = made_one _ a_node (span_and_kind ed) s (λ a. refl)
frame_made ed Frame.query s = made_one _ the_query head_and_body s (λ a. refl)

pub frame_kind_lem : (ed : Edition) (k : Kind) (s : List ℕ) (fr : Frame) → frame_of ed k s ≡ Some fr → frame_kind fr ≡ k
unfolding frame_of Made
frame_kind_lem ed k s fr e = frame_made ed k s fr [] (whole_got (frame ed k s) fr e)

-- ---- What a line says, by its first byte

first_byte : (s : List ℕ) → 0 < length s → s ≡ byte_w s 0 ∷ drop 1 s
first_byte [] l = absurd (omega arith)
first_byte (b ∷ s) l = refl

said_as : (ed : Edition) (s : List ℕ) → 0 < length s → said_by ed (Some s) ≡ said_in ed (kind_of (byte_w s 0)) (drop 1 s)
unfolding said_by
said_as ed [] l = absurd (omega arith)
said_as ed (b ∷ s) l = refl

frame_there : (o : Option Frame) → is_some o ≡ true → (fr : Frame) × (o ≡ Some fr)
frame_there None e = clash (sym e)
frame_there (Some fr) e = (fr, refl)

frame_none : (o : Option Frame) → is_some o ≡ false → o ≡ None
frame_none None e = refl
frame_none (Some fr) e = clash e

module _ (ed : Edition) (s : List ℕ) {f : List ℕ} {at : ℕ} {w : List ℕ} {T : Rows} {c : Counters} {previous : Option Kind} {so : SoFar}
    (h : Held ed f at w T c previous so) (long : 0 < length s) (k : Kind) (e : Some k ≡ kind_of (byte_w s 0)) where
  says : said_by ed (Some s) ≡ said_of k (frame_of ed k (drop 1 s))
  unfolding said_in
  says = said_as ed s long ∙ ap (λ o. said_in ed o (drop 1 s)) (sym e)

  places : (b : Bool) → stands previous (Some k) ≡ b → may_stand so.previous k ≡ b
  places b t = rw h.kind at t

  fills : full_of c k ≡ is_full so k
  unfolding is_full max_names max_types max_predicates max_nodes
  fills = go k
    where
      go : (k : Kind) → full_of c k ≡ is_full so k
      go Frame.limits = refl
      go Frame.name = ap (leb 256) h.names.count
      go Frame.schema_type = ap (leb 256) h.types.count
      go Frame.predicate = ap (leb 128) h.predicates.count
      go Frame.node = ap (leb 512) h.nodes.count
      go Frame.query = refl

  turns : past_of c k ≡ is_last_query_past so k
  unfolding is_last_query_past max_queries
  turns = go k
    where
      go : (k : Kind) → past_of c k ≡ is_last_query_past so k
      go Frame.limits = refl
      go Frame.name = refl
      go Frame.schema_type = refl
      go Frame.predicate = refl
      go Frame.node = refl
      go Frame.query = ap (leb 64) h.queries

  misplaces : stands previous (Some k) ≡ false → first_of conditions so (said_by ed (Some s)) ≡ Some Refused.misplaced_kind
  misplaces t = ap (first_of conditions so) says
      ∙ first_misplaced so k (frame_of ed k (drop 1 s)) (frame_kind_lem ed k (drop 1 s)) (places false t)

  module _ (t : stands previous (Some k) ≡ true) where
    overfills : full_of c k ≡ true → first_of conditions so (said_by ed (Some s)) ≡ Some Refused.too_many
    overfills u = ap (first_of conditions so) says
        ∙ first_too_many so k (frame_of ed k (drop 1 s)) (frame_kind_lem ed k (drop 1 s)) (places true t) (sym fills ∙ u)

    overturns : full_of c k ≡ false → past_of c k ≡ true → first_of conditions so (said_by ed (Some s)) ≡ Some Refused.too_many_queries
    overturns u p = ap (first_of conditions so) says
        ∙ first_too_many_queries so k (frame_of ed k (drop 1 s)) (frame_kind_lem ed k (drop 1 s)) (places true t) (sym fills ∙ u) (sym turns ∙ p)

    misforms : full_of c k ≡ false → past_of c k ≡ false → is_frame ed (Some k) (drop 1 s) ≡ false
        → first_of conditions so (said_by ed (Some s)) ≡ Some Refused.malformed_frame
    misforms u p v = ap (first_of conditions so) says
        ∙ first_no_frame so k (frame_of ed k (drop 1 s)) (frame_kind_lem ed k (drop 1 s)) (places true t) (sym fills ∙ u) (sym turns ∙ p)
        (frame_none (frame_of ed k (drop 1 s)) v)

    comes : (fr : Frame) → full_of c k ≡ false → past_of c k ≡ false → frame_of ed k (drop 1 s) ≡ Some fr → Comes ed so k s fr
    comes fr u p x = record {
      placed = places true t;
      room = sym fills ∙ u;
      turn = sym turns ∙ p;
      first = first_byte s long ∙ ap (λ b. b ∷ drop 1 s) (kind_byte_lem (byte_w s 0) k (sym e));
      is = x;
    }

pub unknown : (ed : Edition) (so : SoFar) (s : List ℕ) → 0 < length s → None ≡ kind_of (byte_w s 0)
    → first_of conditions so (said_by ed (Some s)) ≡ Some Refused.misplaced_kind
unfolding said_in
unknown ed so s l e = ap (first_of conditions so) (said_as ed s l ∙ ap (λ o. said_in ed o (drop 1 s)) (sym e)) ∙ first_unknown so

-- ---- The ends of a line

module _ (ed : Edition) (f : List ℕ) (at : ℕ) (s w prints : List ℕ) (c : Counters) (previous : Option Coded.Kind) (kind : Coded.Kind) where
  abbrev k : Kind
  k = kind_meant kind

  pub line_misplaced : stands (known previous) (Some k) ≡ false → TakesLine ed f at s w prints c previous kind w prints (Err Refusal.MisplacedKind)
  line_misplaced t = record {
    printed = λ next T so d h p l e r. no_step r;
    is = λ next T so h p l e. refuses ed f next w (Some k) (after so (said_by ed (Some s))) Refusal.MisplacedKind _
        (misplaces ed s h l.some k e t);
  }

  module _ (t : stands (known previous) (Some k) ≡ true) where
    pub line_too_many : full_of c k ≡ true → TakesLine ed f at s w prints c previous kind w prints (Err Refusal.TooMany)
    line_too_many u = record {
      printed = λ next T so d h p l e r. no_step r;
      is = λ next T so h p l e. refuses ed f next w (Some k) (after so (said_by ed (Some s))) Refusal.TooMany _
          (overfills ed s h l.some k e t u);
    }

    pub line_too_many_queries : full_of c k ≡ false → past_of c k ≡ true
        → TakesLine ed f at s w prints c previous kind w prints (Err Refusal.TooManyQueries)
    line_too_many_queries u p = record {
      printed = λ next T so d h p l e r. no_step r;
      is = λ next T so h q l e. refuses ed f next w (Some k) (after so (said_by ed (Some s))) Refusal.TooManyQueries _
          (overturns ed s h l.some k e t u p);
    }

    module _ (u : full_of c k ≡ false) (p : past_of c k ≡ false) where
      pub line_no_frame : is_frame ed (Some k) (drop 1 s) ≡ false → TakesLine ed f at s w prints c previous kind w prints (Err Refusal.MalformedFrame)
      line_no_frame v = record {
        printed = λ next T so d h p l e r. no_step r;
        is = λ next T so h q l e. refuses ed f next w (Some k) (after so (said_by ed (Some s))) Refusal.MalformedFrame _
            (misforms ed s h l.some k e t u p v);
      }

      module _ (v : is_frame ed (Some k) (drop 1 s) ≡ true) where
        there : (fr : Frame) × (frame_of ed k (drop 1 s) ≡ Some fr)
        there = frame_there (frame_of ed k (drop 1 s)) v

        says_there : {next : ℕ} {T : Rows} {so : SoFar} → Held ed f at w T c (known previous) so → LineAt f at next s → Some k ≡ kind_of (byte_w s 0)
            → said_by ed (Some s) ≡ frames there.0
        unfolding said_of
        says_there h l e = says ed s h l.some k e ∙ ap (said_of k) there.1

        -- of any other kind than a name
        pub line_takes : (j : Kind) → k ≡ j → is_other j ≡ true → (w' : List ℕ) (r : Result Counters Refusal)
            → Takes ed f at j s w c w' r → TakesLine ed f at s w prints c previous kind w' prints r
        unfolding after
        line_takes j n o w' r a =
            let b : Takes ed f at k s w c w' r = subst (λ i. Takes ed f at i s w c w' r) (sym n) a in
            let other : is_other (frame_kind there.0) ≡ true = ap is_other (frame_kind_lem ed k (drop 1 s) there.0 there.1 ∙ n) ∙ o in
            record {
              is = λ next T so h q l e.
                  subst (λ x. LineEnds ed f next w' (Some k) (after so x) r (first_of conditions so x)) (sym (says_there h l e))
                  (b.is next T (known previous) so there.0 h l (comes ed s h l.some k e t there.0 u p there.1));
              printed = λ next T so d h q l e x.
                  subst (Printed prints) (sym (ap (λ y. (after so y).names) (says_there h l e) ∙ same_names so there.0 other)) q;
            }

        module _ (n : k ≡ Frame.name) where
          comes_name : {next : ℕ} {T : Rows} {so : SoFar} → Held ed f at w T c (known previous) so → LineAt f at next s → Some k ≡ kind_of (byte_w s 0)
              → Comes ed so Frame.name s there.0
          comes_name {so = so} h l e = subst (λ i. Comes ed so i s there.0) n (comes ed s h l.some k e t there.0 u p there.1)

          pub line_takes_name : (w' prints' : List ℕ) (r : Result Counters Refusal) → c.names < length prints
              → TakesName ed f at s w prints c w' prints' r → TakesLine ed f at s w prints c previous kind w' prints' r
          unfolding after add
          line_takes_name w' prints' r room a = record {
            is = λ next T so h q l e.
                subst (λ x. LineEnds ed f next w' (Some k) (after so x) r (first_of conditions so x)) (sym (says_there h l e))
                (subst (λ i. LineEnds ed f next w' (Some i) (add so there.0) r (first_of conditions so (frames there.0))) (sym n)
                (a.is next T (known previous) so there.0 h q l (comes_name h l e)));
            printed = λ next T so d h q l e x.
                let own : a_name (drop 1 s) ≡ there.0 = name_frame ed so s there.0 (comes_name h l e) in
                subst (Printed prints') (sym (ap (λ y. (after so y).names) (says_there h l e ∙ ap frames (sym own))))
                (rw (a.printed d x) (printed_added c.names (drop 1 s) h.names.count room q));
          }

-- ---- What the functions for each kind ask

module _ (c : Counters) (kind : Coded.Kind) (u : full_of c (kind_meant kind) ≡ false) where
  pub room_for_name : kind ≡ Code.Name → c.names < 256
  room_for_name e = leb-false 256 c.names (rw e at u)

  pub room_for_predicate : kind ≡ Code.Predicate → c.predicates < 128
  room_for_predicate e = leb-false 128 c.predicates (rw e at u)

  pub room_for_node : kind ≡ Code.Node → c.nodes < 512
  room_for_node e = leb-false 512 c.nodes (rw e at u)

module _ (ed : Edition) (s : List ℕ) (kind : Coded.Kind) (v : is_frame ed (Some (kind_meant kind)) (drop 1 s) ≡ true) where
  long_by : (n : ℕ) → (length s < n → is_frame ed (Some (kind_meant kind)) (drop 1 s) ≡ false) → n ≤ length s
  long_by n short = cases (ltb (length s) n)
      (λ q. clash (sym v ∙ short (ltb-true (length s) n q)))
      (λ q. ltb-false (length s) n q)

  pub long_type : kind ≡ Code.SchemaType → 2 ≤ length s
  long_type e = long_by 2 (rw e (type_short ed s))

  pub long_predicate : kind ≡ Code.Predicate → 6 ≤ length s
  long_predicate e = long_by 6 (rw e (predicate_short ed s))

  pub long_node : kind ≡ Code.Node → 10 ≤ length s
  long_node e = long_by 10 (rw e (node_short ed s))
