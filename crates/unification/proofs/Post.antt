-- What is claimed of the end of a unification, or of a stretch of one, and how such claims join. A claim stands under a
-- proviso A, under which every type that was admitted stays so; the same A serves for the whole of an entry.
use mathlib.Core.Bool.{Bool, true, false}
use mathlib.Core.List.{List, [], ◌∷◌}
use mathlib.Core.Logic.{◌↔◌}
use mathlib.Core.Path.{◌≡◌, refl, sym, ◌∙◌}
use Prim.Native.Nat.{ℕ}
use lib.Dec.{eqb}
use lib.ListN.{length}
use Rattle.unification.specs.Ty.{Kind, Record, Union, Ty, node, Row, ε, cell, row_len, app, app_row}
use Rattle.unification.specs.Order.{SameTy, SameRow}
use Rattle.unification.specs.Bindings.{Subst, History, start, ended, rolled, State}
use Rattle.unification.specs.Unify.{UnionDiff, TyError, Unified, Ok, Err, Spent, and_then, map_err, find_key, unify_field, unify_fields, unify_record}
use Rattle.unification.specs.Unify.{discriminants, unify_alternative, unify_alternatives, unify_union, unify_nodes}
use Rattle.unification.specs.Calls.{DistinctKeys, Side, itself, Admitted, Respects, live, AllAdmitted, MakesEqual, EntryClaim, BindingsClaim, BackTo}
use Rattle.unification.specs.Calls.{bindings_at, Noted}
use Rattle.unification.specs.Acyclic.{Acyclic}
use Rattle.unification.proofs.Tests.{clash}
use Rattle.unification.proofs.Rows.{Both, Match, AgreeAt, match_same, same_match, same_len, agree_same, same_agree, agree_discriminants, app_cell}
use Rattle.unification.proofs.Rows.{find_app, distinct_app, row_len_app, discriminants_app}
use Rattle.unification.specs.Log.{Wf}
use Rattle.unification.proofs.Sides.{Parts, Part, find_part, parts_map, Field, Alternative, fields, alternatives, Permits, admitted_parts}
use Rattle.std.specs.Prelude.{None, Option, Some}
use Rattle.std.proofs.lemmas.Bool.{eqb-true, eqb-false}

-- Every substitution.
abbrev pub Any : (ℕ → Ty) → Type 0
Any σ = Unit {0}

-- The clauses at every moment, over all substitutions and with acyclic bindings.
abbrev pub Moments : History → Type 0
Moments start = Unit {0}
Moments (ended s a b ok s' h) = EntryClaim Any s a b ok s' × BindingsClaim Any s' (ended s a b ok s' h) × Acyclic s' × Moments h
Moments (rolled past s s' h) = BackTo (bindings_at past) s s' × Noted s h × BindingsClaim Any s' (rolled past s s' h) × Acyclic s' × Moments h

-- Between two entries: the bindings are those of the last moment, and as (b) says.
pub record Here (s : Subst) (h : History) : Type 0 where
  pub noted : Noted s h
  pub claim : BindingsClaim Any s h

-- What is known when a stretch begins.
pub record Known (s : Subst) (h : History) : Type 0 where
  pub moments : Moments h
  pub here : Here s h

-- However a stretch ends: from the bindings s and the history h to the state st.
pub record Step (s : Subst) (h : History) (st : State) : Type 0 where
  pub wf : Wf st.subst
  pub len : length st.subst ≡ length s
  pub moments : Known s h → Moments st.history
  pub older : AllAdmitted (live st.history) → AllAdmitted (live h)
  pub held : (σ : ℕ → Ty) → MakesEqual σ (live st.history) → MakesEqual σ (live h)

-- Success, where C is what it demands of a substitution.
pub record Done (s : Subst) (h : History) (A : Type 0) (C : (ℕ → Ty) → Type 0) (st : State) : Type 0 where
  pub step : Step s h st
  pub here : Known s h → Here st.subst st.history
  pub keeps : A → (u : Ty) → Admitted s u → Admitted st.subst u
  pub same : A → (σ : ℕ → Ty) → Respects σ st.subst ↔ (Respects σ s × C σ)

pub record Failed (s : Subst) (h : History) (A : Type 0) (C : (ℕ → Ty) → Type 0) (st : State) : Type 0 where
  pub step : Step s h st
  pub here : Known s h → Here st.subst st.history
  pub never : A → (σ : ℕ → Ty) → Respects σ s → ¬ C σ

-- The visits ran out.
pub record Stopped (s : Subst) (h : History) (st : State) : Type 0 where
  pub step : Step s h st
  pub here : Known s h → Here st.subst st.history

-- Success of an entry that has not been noted yet: its own binding stands in no entry of the history.
pub record Closing (s : Subst) (h : History) (A : Type 0) (C : (ℕ → Ty) → Type 0) (st : State) : Type 0 where
  pub step : Step s h st
  pub bindings : Known s h → AllAdmitted (live st.history) → A → (σ : ℕ → Ty) → Respects σ st.subst ↔ (C σ × MakesEqual σ (live st.history))
  pub keeps : A → (u : Ty) → Admitted s u → Admitted st.subst u
  pub same : A → (σ : ℕ → Ty) → Respects σ st.subst ↔ (Respects σ s × C σ)

abbrev pub Post : Subst → History → Type 0 → ((ℕ → Ty) → Type 0) → Unified → Type 0
Post s h A C (Ok st) = Done s h A C st
Post s h A C (Err e st) = Failed s h A C st
Post s h A C (Spent st) = Stopped s h st

abbrev pub Inside : Subst → History → Type 0 → ((ℕ → Ty) → Type 0) → Unified → Type 0
Inside s h A C (Ok st) = Closing s h A C st
Inside s h A C (Err e st) = Failed s h A C st
Inside s h A C (Spent st) = Stopped s h st

-- ---- No step
pub step_refl : (st : State) → Wf st.subst → Step st.subst st.history st
step_refl st w = record { wf = w; len = refl; moments = λ k. k.moments; older = λ a. a; held = λ σ m. m }

pub stay : (st : State) (A : Type 0) (C : (ℕ → Ty) → Type 0) → Wf st.subst → (A → (σ : ℕ → Ty) → C σ) → Done st.subst st.history A C st
stay st A C w c = record { step = step_refl st w; here = λ k. k.here; keeps = λ a u g. g; same = λ a σ. (λ R. (R, c a σ), λ R. R.0) }

pub stop : (st : State) (A : Type 0) (C : (ℕ → Ty) → Type 0) → Wf st.subst → (A → (σ : ℕ → Ty) → ¬ C σ) → Failed st.subst st.history A C st
stop st A C w c = record { step = step_refl st w; here = λ k. k.here; never = λ a σ R. c a σ }

-- ---- One stretch after another
step_trans : (s : Subst) (h : History) (b c : State) → (Known s h → Here b.subst b.history) → Step s h b → Step b.subst b.history c → Step s h c
step_trans s h b c i p q = record {
  wf = q.wf;
  len = q.len ∙ p.len;
  moments = λ k. q.moments (record { moments = p.moments k; here = i k });
  older = λ a. p.older (q.older a);
  held = λ σ m. p.held σ (q.held σ m);
}

module _ (s : Subst) (h : History) (A : Type 0) (C D : (ℕ → Ty) → Type 0) where
  joined : (b : State) → Done s h A C b → (res : Unified) → Post b.subst b.history A D res → Post s h A (λ σ. C σ × D σ) res
  joined b p (Ok c) q = record {
    step = step_trans s h b c p.here p.step q.step;
    here = λ k. q.here (record { moments = p.step.moments k; here = p.here k });
    keeps = λ a u g. q.keeps a u (p.keeps a u g);
    same = λ a σ. (
      λ R. let y = (q.same a σ).0 R in let x = (p.same a σ).0 y.0 in (x.0, (x.1, y.1)),
      λ R. (q.same a σ).1 ((p.same a σ).1 (R.0, R.1.0), R.1.1),
    );
  }
  joined b p (Err e c) q = record {
    step = step_trans s h b c p.here p.step q.step;
    here = λ k. q.here (record { moments = p.step.moments k; here = p.here k });
    never = λ a σ R x. q.never a σ ((p.same a σ).1 (R, x.0)) x.1;
  }
  joined b p (Spent c) q = record {
    step = step_trans s h b c p.here p.step q.step;
    here = λ k. q.here (record { moments = p.step.moments k; here = p.here k });
  }

  pub seq : (res : Unified) (f : State → Unified) → Post s h A C res
      → ((b : State) → Wf b.subst → length b.subst ≡ length s → (A → (u : Ty) → Admitted s u → Admitted b.subst u)
      → Post b.subst b.history A D (f b))
      → Post s h A (λ σ. C σ × D σ) (and_then res f)
  unfolding and_then
  seq (Ok b) f p q = joined b p (f b) (q b p.step.wf p.step.len p.keeps)
  seq (Err e b) f p q = record { step = p.step; here = p.here; never = λ a σ R x. p.never a σ R x.0 }
  seq (Spent b) f p q = p

  -- Another demand that the proviso makes the same.
  pub change : (res : Unified) → (A → (σ : ℕ → Ty) → Respects σ s → C σ ↔ D σ) → Post s h A C res → Post s h A D res
  change (Ok b) i p = record {
    step = p.step;
    here = p.here;
    keeps = p.keeps;
    same = λ a σ. (λ R. let x = (p.same a σ).0 R in (x.0, (i a σ x.0).0 x.1), λ R. (p.same a σ).1 (R.0, (i a σ R.0).1 R.1));
  }
  change (Err e b) i p = record { step = p.step; here = p.here; never = λ a σ R d. p.never a σ R ((i a σ R).1 d) }
  change (Spent b) i p = p

-- A stronger proviso.
pub under : (s : Subst) (h : History) (A B : Type 0) (C : (ℕ → Ty) → Type 0) (res : Unified) → (B → A) → Post s h A C res → Post s h B C res
under s h A B C (Ok b) f p = record { step = p.step; here = p.here; keeps = λ a. p.keeps (f a); same = λ a. p.same (f a) }
under s h A B C (Err e b) f p = record { step = p.step; here = p.here; never = λ a. p.never (f a) }
under s h A B C (Spent b) f p = p

post_map_err : (s : Subst) (h : History) (A : Type 0) (C : (ℕ → Ty) → Type 0) (e : TyError) (res : Unified) → Post s h A C res → Post s h A C (map_err e res)
unfolding map_err
post_map_err s h A C e (Ok b) p = p
post_map_err s h A C e (Err e' b) p = p
post_map_err s h A C e (Spent b) p = p

-- A run of entries is what an entry may hold.
pub loosen : (s : Subst) (h : History) (A : Type 0) (C : (ℕ → Ty) → Type 0) (res : Unified) → Post s h A C res → Inside s h A C res
unfolding BindingsClaim
loosen s h A C (Ok b) p = record {
  step = p.step;
  keeps = p.keeps;
  same = p.same;
  bindings = λ k m a σ. let e = (p.here k).claim m σ tt in (λ R. (((p.same a σ).0 R).1, e.0 R), λ x. e.1 x.1);
}
loosen s h A C (Err e b) p = p
loosen s h A C (Spent b) p = p

-- ---- Rows

-- What an entry does, of any unifier in its place.
abbrev pub Entry : (State → Ty → Ty → Unified) → Type 1
Entry u = (A : Type 0) (st : State) (a b : Ty) → Wf st.subst → Side (length st.subst) a → Side (length st.subst) b
    → (A → Admitted st.subst a × Admitted st.subst b)
    → Post st.subst st.history A (λ σ. SameTy (app σ a) (app σ b)) (u st a b)

record_union : ¬ (Record ≡ Union)
record_union e = clash (cc)

permits_map : (s s' : Subst) → ((u : Ty) → Admitted s u → Admitted s' u) → (r : Row) → Parts (Permits s) r → Parts (Permits s') r
permits_map s s' f r h = parts_map (Permits s) (Permits s') (λ l t g. f t g) r h

module _ (u : State → Ty → Ty → Unified) (rec : Entry u) (A : Type 0) where
  field_post : (st : State) (k l : ℕ) (t : Ty) (o : Option (ℕ × Ty)) → Wf st.subst → Field (length st.subst) l t → Part (Field (length st.subst)) o
      → (A → Admitted st.subst t × Part (Permits st.subst) o)
      → Post st.subst st.history A (λ σ. Both (Some (l, app σ t)) (app_cell σ o)) (unify_field u st k t o)
  unfolding unify_field
  field_post st k l t None w f g a = stop st A _ w (λ p σ c. c)
  field_post st k l t (Some y) w f g a =
      change st.subst st.history A _ _ (u st t y.1) (λ p σ R. (λ e. (f.0 ∙ sym g.0, e), λ e. e.1)) (rec A st t y.1 w f.1 g.1 a)

  fields_post : (st : State) (xs ys : Row) → Wf st.subst → Parts (Field (length st.subst)) xs → Parts (Field (length st.subst)) ys
      → (A → Parts (Permits st.subst) xs × Parts (Permits st.subst) ys)
      → Post st.subst st.history A (λ σ. Match (app_row σ xs) (app_row σ ys)) (unify_fields u st xs ys)
  unfolding unify_fields app_row
  fields_post st ε ys w f g a = stay st A _ w (λ p σ. tt)
  fields_post st (cell k l t r) ys w f g a =
      seq st.subst st.history A (λ σ. Both (Some (l, app σ t)) (find_key k (app_row σ ys))) (λ σ. Match (app_row σ r) (app_row σ ys))
      (unify_field u st k t (find_key k ys)) (λ b. unify_fields u b r ys)
      (change st.subst st.history A (λ σ. Both (Some (l, app σ t)) (app_cell σ (find_key k ys))) _ (unify_field u st k t (find_key k ys))
      (λ p σ R. (λ c. rw (find_app σ k ys) c, λ c. rw (find_app σ k ys) at c))
      (field_post st k l t (find_key k ys) w f.0 (find_part (Field (length st.subst)) k ys g)
      (λ p. let x = a p in (x.0.0, find_part (Permits st.subst) k ys x.1))))
      (λ b w' e n. fields_post b r ys w' (rw e f.1) (rw e g)
      (λ p. let x = a p in (permits_map st.subst b.subst (n p) r x.0.1, permits_map st.subst b.subst (n p) ys x.1)))

  record_post : (st : State) (xs ys : Row) → Wf st.subst → Parts (Field (length st.subst)) xs → Parts (Field (length st.subst)) ys
      → (A → Parts (Permits st.subst) xs × Parts (Permits st.subst) ys) → (A → DistinctKeys xs × DistinctKeys ys)
      → Post st.subst st.history A (λ σ. SameRow (app_row σ xs) (app_row σ ys)) (unify_record u st xs ys)
  unfolding unify_record
  record_post st xs ys w f g a d = go (eqb (row_len xs) (row_len ys)) refl
    where
      go : (b : Bool) → eqb (row_len xs) (row_len ys) ≡ b → Post st.subst st.history A (λ σ. SameRow (app_row σ xs) (app_row σ ys)) (unify_record u st xs ys)
      go true q = rw (q, unify_record) (change st.subst st.history A _ _ (unify_fields u st xs ys)
          (λ p σ R. (
            match_same (app_row σ xs) (app_row σ ys) (distinct_app σ xs (d p).0)
                (row_len_app σ xs ∙ eqb-true (row_len xs) (row_len ys) q ∙ sym (row_len_app σ ys)),
            same_match (app_row σ xs) (app_row σ ys) (distinct_app σ xs (d p).0) (distinct_app σ ys (d p).1),
          ))
          (fields_post st xs ys w f g a))
      go false q = rw (q, unify_record) (stop st A _ w
          (λ p σ c. eqb-false (row_len xs) (row_len ys) q (sym (row_len_app σ xs) ∙ same_len (app_row σ xs) (app_row σ ys) c ∙ row_len_app σ ys)))

  alternative_post : (st : State) (differ : UnionDiff → TyError) (k : ℕ) (o o' : Option (ℕ × Ty)) → Wf st.subst
      → Part (Alternative (length st.subst)) o → Part (Alternative (length st.subst)) o'
      → (A → Part (Permits st.subst) o × Part (Permits st.subst) o')
      → Post st.subst st.history A (λ σ. Both (app_cell σ o) (app_cell σ o')) (unify_alternative u st differ k o o')
  unfolding unify_alternative
  alternative_post st differ k None None w f g a = stay st A _ w (λ p σ. tt)
  alternative_post st differ k None (Some y) w f g a = stop st A _ w (λ p σ c. c)
  alternative_post st differ k (Some x) None w f g a = stop st A _ w (λ p σ c. c)
  alternative_post st differ k (Some x) (Some y) w f g a = go (eqb x.0 y.0) refl
    where
      go : (b : Bool) → eqb x.0 y.0 ≡ b → Post st.subst st.history A (λ σ. Both (app_cell σ (Some x)) (app_cell σ (Some y)))
          (unify_alternative u st differ k (Some x) (Some y))
      go true q = rw (q, unify_alternative) (post_map_err st.subst st.history A _ _ (u st x.1 y.1)
          (change st.subst st.history A _ _ (u st x.1 y.1) (λ p σ R. (λ e. (eqb-true x.0 y.0 q, e), λ e. e.1))
          (rec A st x.1 y.1 w f g a)))
      go false q = rw (q, unify_alternative) (stop st A _ w (λ p σ c. eqb-false x.0 y.0 q c.0))

  alternatives_post : (st : State) (differ : UnionDiff → TyError) (ks : List ℕ) (xs ys : Row) → Wf st.subst
      → Parts (Alternative (length st.subst)) xs → Parts (Alternative (length st.subst)) ys
      → (A → Parts (Permits st.subst) xs × Parts (Permits st.subst) ys)
      → Post st.subst st.history A (λ σ. AgreeAt ks (app_row σ xs) (app_row σ ys)) (unify_alternatives u st differ ks xs ys)
  unfolding unify_alternatives
  alternatives_post st differ [] xs ys w f g a = stay st A _ w (λ p σ. tt)
  alternatives_post st differ (k ∷ ks) xs ys w f g a =
      seq st.subst st.history A (λ σ. Both (find_key k (app_row σ xs)) (find_key k (app_row σ ys))) (λ σ. AgreeAt ks (app_row σ xs) (app_row σ ys))
      (unify_alternative u st differ k (find_key k xs) (find_key k ys)) (λ b. unify_alternatives u b differ ks xs ys)
      (change st.subst st.history A (λ σ. Both (app_cell σ (find_key k xs)) (app_cell σ (find_key k ys))) _
      (unify_alternative u st differ k (find_key k xs) (find_key k ys))
      (λ p σ R. (λ c. rw (find_app σ k xs, find_app σ k ys) c, λ c. rw (find_app σ k xs, find_app σ k ys) at c))
      (alternative_post st differ k (find_key k xs) (find_key k ys) w (find_part (Alternative (length st.subst)) k xs f)
      (find_part (Alternative (length st.subst)) k ys g)
      (λ p. let x = a p in (find_part (Permits st.subst) k xs x.0, find_part (Permits st.subst) k ys x.1))))
      (λ b w' e n. alternatives_post b differ ks xs ys w' (rw e f) (rw e g)
      (λ p. let x = a p in (permits_map st.subst b.subst (n p) xs x.0, permits_map st.subst b.subst (n p) ys x.1)))

  union_post : (st : State) (xs ys : Row) → Wf st.subst → Parts (Alternative (length st.subst)) xs → Parts (Alternative (length st.subst)) ys
      → (A → Parts (Permits st.subst) xs × Parts (Permits st.subst) ys) → DistinctKeys xs → DistinctKeys ys
      → Post st.subst st.history A (λ σ. SameRow (app_row σ xs) (app_row σ ys)) (unify_union u st xs ys)
  unfolding unify_union
  union_post st xs ys w f g a d e =
      change st.subst st.history A (λ σ. AgreeAt (discriminants xs ys) (app_row σ xs) (app_row σ ys)) _ (unify_union u st xs ys)
      (λ p σ R. let i = agree_discriminants (app_row σ xs) (app_row σ ys) in (
        λ c. agree_same (app_row σ xs) (app_row σ ys) (distinct_app σ xs d) (distinct_app σ ys e) (i.0 (rw (discriminants_app σ xs ys) c)),
        λ c. rw (discriminants_app σ xs ys) at (i.1 (same_agree (app_row σ xs) (app_row σ ys) (distinct_app σ xs d) (distinct_app σ ys e) c)),
      ))
      (alternatives_post st _ (discriminants xs ys) xs ys w f g a)

  pub nodes_post : (st : State) (k : Kind) (xs : Row) (k' : Kind) (ys : Row) → Wf st.subst → Side (length st.subst) (node k xs)
      → Side (length st.subst) (node k' ys)
      → (A → Admitted st.subst (node k xs) × Admitted st.subst (node k' ys))
      → Post st.subst st.history A (λ σ. SameTy (app σ (node k xs)) (app σ (node k' ys))) (unify_nodes u st k xs k' ys)
  unfolding unify_nodes app Admitted
  nodes_post st Record xs Record ys w f g a =
      change st.subst st.history A _ _ (unify_record u st xs ys) (λ p σ R. (λ c. (refl, c), λ c. c.1))
      (record_post st xs ys w (fields (length st.subst) xs f) (fields (length st.subst) ys g)
      (λ p. (admitted_parts st.subst Record xs (a p).0, admitted_parts st.subst Record ys (a p).1)) (λ p. ((a p).0 _ itself, (a p).1 _ itself)))
  nodes_post st Record xs Union ys w f g a = stop st A _ w (λ p σ c. record_union c.0)
  nodes_post st Union xs Record ys w f g a = stop st A _ w (λ p σ c. record_union (sym c.0))
  nodes_post st Union xs Union ys w f g a =
      change st.subst st.history A _ _ (unify_union u st xs ys) (λ p σ R. (λ c. (refl, c), λ c. c.1))
      (union_post st xs ys w (alternatives (length st.subst) xs f.1) (alternatives (length st.subst) ys g.1)
      (λ p. (admitted_parts st.subst Union xs (a p).0, admitted_parts st.subst Union ys (a p).1)) f.0 g.0)
