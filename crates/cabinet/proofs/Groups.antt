-- What a valid group is sure of, and that charging a ceiling and a new day leave it valid.
use Rattle.std.proofs.Common.{List, length, get_or, set, take, sum_by, ◌≡◌, refl, ap, ◌∙◌, ℕ, suc, ◌+◌, ◌-◌, ◌<◌, ◌≤◌, min, arith}
use Rattle.std.proofs.lemmas.List.{length-set, set-set, set-get_or, get_or-set_same, get_or-set_other}
use native.Mathlib.Decide.{dec_le}
use Rattle.std.proofs.lemmas.Grind.{common_steps}
use Rattle.std.proofs.lemmas.Bool.Decides.{nat_tests}
use Rattle.cabinet.specs.declared.Desk.{Desk}
use Rattle.cabinet.specs.declared.Group.{Group}
use Rattle.cabinet.specs.Cabinet.{absent, desk, total, larger, but, Rules, Valid, ceiling_of, charged, rested, set_up}
use Rattle.cabinet.specs.Promises.{AllowedShares}
use Rattle.cabinet.specs.Days.{UsedMore}
use Rattle.cabinet.proofs.Totals.{total_same, total_split, total_taken}
use Rattle.cabinet.proofs.Places.{get_or-places}

-- What every other desk keeps.
abbrev pub others : Group → ℕ → ℕ
others g d = total (but d (λ i. larger (desk g i))) g.count

-- All that is kept, but for the desk's own.
pub others_left : (g : Group) (d : ℕ) → g.count ≤ length g.desks → d < g.count → sum_by larger (take g.count g.desks) - larger (desk g d) ≡ others g d
others_left g d here at = omega (arith, total_taken larger g.desks absent g.count here, total_split d (λ i. larger (desk g i)) g.count at)

module _ (g : Group) (v : Valid g) (d : ℕ) (at : d < g.count) where
  -- The pool holds the desk's own beside it.
  pub beside : others g d + larger (desk g d) ≤ g.pool
  beside = omega (arith, total_split d (λ i. larger (desk g i)) g.count at, v.held)

  pub assured : min 1048576 ((desk g d).share - (desk g d).used) ≤ ceiling_of g d
  assured = omega (arith, v.rules.caps d at, beside)

  pub within : (desk g d).used + ceiling_of g d ≤ (desk g d).cap
  within = omega (arith, v.uses d at)

-- ---- A charge

-- Share and cap stay, and the use grows by no more than the visits.
record Grown (visits : ℕ) (d d' : Desk) : Type 0 where
  share : d'.share ≡ d.share
  cap : d'.cap ≡ d.cap
  used : d'.used ≤ d.used + visits

pub charged_none : (g : Group) (d : ℕ) → charged g d 0 ≡ g
charged_none g d =
    let none : record { share = (desk g d).share; cap = (desk g d).cap; used = (desk g d).used + 0 } ≡ desk g d = grind (arith, common_steps) in
    ap (λ (l : List Desk). record { count = g.count; pool = g.pool; desks = l }) (ap (set g.desks d) none ∙ set-get_or g.desks d absent)

module _ (g : Group) (d visits : ℕ) where
  grown : (i : ℕ) → Grown visits (desk g i) (desk (charged g d visits) i)
  grown i = record { share = grind (arith, common_steps); cap = grind (arith, common_steps); used = grind (arith, common_steps) }

  others_stay : others (charged g d visits) d ≡ others g d
  others_stay = total_same _ _ g.count (λ i l. grind (arith, nat_tests, common_steps))

  -- The desk's use is what it was and the visits, and nothing else has changed.
  pub used_more : UsedMore g d visits (charged g d visits)
  used_more = record {
    count = refl;
    pool = refl;
    long = length-set g.desks d _;
    its = λ at. get_or-set_same g.desks d _ absent at;
    others = λ i n. get_or-set_other g.desks d i _ absent n;
  }

  -- One charge after another is one of both.
  pub charged_more : (more : ℕ) → charged (charged g d visits) d more ≡ charged g d (visits + more)
  charged_more more = elim (dec_le (suc d) (length g.desks)) [
    | yes at ↦
        ap (λ (l : List Desk). record { count = g.count; pool = g.pool; desks = l })
        (set-set g.desks d _ _ ∙ ap (λ e. set g.desks d e) (grind (arith, common_steps)))
    | no far ↦ ap (λ (l : List Desk). record { count = g.count; pool = g.pool; desks = l }) (grind (arith, common_steps))
  ]

  pub charged_valid : Valid g → d < g.count → visits ≤ ceiling_of g d → Valid (charged g d visits)
  charged_valid v at l = record {
    rules = record {
      some = v.rules.some;
      few = v.rules.few;
      shares = rw (total_same _ (λ i. (desk g i).share) g.count (λ i k. (grown i).share)) v.rules.shares;
      caps = λ i k. omega (arith, (grown i).share, (grown i).cap, v.rules.caps i k);
    };
    uses = λ i k. grind (arith, common_steps, within, v.uses);
    held =
        omega (arith, total_split d (λ i. larger (desk (charged g d visits) i)) g.count at, others_stay, (grown d).share, (grown d).used, beside g v d at, l);
  }

-- ---- No use yet

module _ (g : Group) (share cap : ℕ → ℕ) (unused : (i : ℕ) → i < 16 → desk g i ≡ record { share = share i; cap = cap i; used = 0 }) where
  -- A fact of each of the first desks, by what it is.
  each : (n : ℕ) → n ≤ 16 → (P : ℕ → Desk → Type 0) → ((i : ℕ) → i < n → P i (record { share = share i; cap = cap i; used = 0 })) → (i : ℕ) → i < n
      → P i (desk g i)
  each n few P h i l = rw (unused i (omega arith)) (h i l)

  pub unused_valid : Rules g.count g.pool share cap → Valid g
  unused_valid r = record {
    rules = record {
      some = r.some;
      few = r.few;
      shares = rw (total_same _ share g.count (each g.count r.few (λ i d. d.share ≡ share i) (λ i k. refl))) r.shares;
      caps = each g.count r.few (λ i d. d.share ≤ d.cap) r.caps;
    };
    uses = each g.count r.few (λ i d. d.used ≤ d.cap) (λ i k. omega arith);
    held = rw (total_same _ share g.count (each g.count r.few (λ i d. larger d ≡ share i) (λ i k. omega arith))) r.shares;
  }

  pub unused_rules : Valid g → Rules g.count g.pool share cap
  unused_rules v = record {
    some = v.rules.some;
    few = v.rules.few;
    shares = rw (total_same share _ g.count (each g.count v.rules.few (λ i d. share i ≡ d.share) (λ i k. refl))) v.rules.shares;
    caps = λ i k. rw (unused i (omega (arith, v.rules.few))) at (v.rules.caps i k);
  }

pub rested_valid : (g : Group) → Valid g → Valid (rested g)
rested_valid g v = unused_valid (rested g) (λ i. (desk g i).share) (λ i. (desk g i).cap) (λ i k. get_or-places _ 16 i k) v.rules

module _ (pool : ℕ) (shares caps : List ℕ) where
  set_up_at : (i : ℕ) → i < 16 → desk (set_up pool shares caps) i ≡ record { share = get_or shares i 0; cap = get_or caps i 0; used = 0 }
  set_up_at i k = get_or-places _ 16 i k

  pub set_up_valid : AllowedShares pool shares caps → Valid (set_up pool shares caps)
  set_up_valid a = unused_valid (set_up pool shares caps) (λ i. get_or shares i 0) (λ i. get_or caps i 0) set_up_at a.rules

  pub set_up_allowed : length shares ≡ length caps → Valid (set_up pool shares caps) → AllowedShares pool shares caps
  set_up_allowed e v = record { pairs = e; rules = unused_rules (set_up pool shares caps) (λ i. get_or shares i 0) (λ i. get_or caps i 0) set_up_at v }
