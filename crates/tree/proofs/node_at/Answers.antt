-- `tree::node_at` meets its contract: each arm is a law of NodeArms at the node's line, whose place, length and shape
-- byte the calls before the match read.
use Rattle.std.specs.Prelude.{◌≡◌, ℕ, List, get_or, ◌+◌, ◌/◌, ◌%◌}
use native.Mathlib.Omega.{arith}
use Rattle.work.specs.Layout.{NODES}
use Rattle.sigla_hex.specs.Digits.{digits_w}
use Rattle.tree.proofs.NodeArms.{At, int, str, bytes, var, wildcard, never, prefix, fuzzy, fields, disjunction, arithmetic, parents}
use Rattle.tree.proofs.node_at.Goals as goal

line : {f w : List ℕ} {n k a x p start size shape : ℕ} → k ≡ n → a ≡ get_or w (NODES + k) 0 → x ≡ a / 2 → p ≡ x / 1024 → start ≡ p
    → size ≡ x % 1024 → shape ≡ digits_w f (start + 18) → At f w n start size shape
line {w = w} k a x p s z d =
    let e = rw k at a in
    record { begins = omega arith; long = omega arith; says = d }

pub returns-in-0 : goal.returns-in-0
returns-in-0 c =
    int _ _ _ _ _ _ (line c.wide.ensures.0 c.word.ensures c.node_line-x.ensures c.line_place.ensures c.wide-start.ensures.0 c.line_size-size.ensures
    c.hex_byte-shape.ensures.0) c.in-0.is

pub returns-in-1 : goal.returns-in-1
returns-in-1 c =
    str _ _ _ _ _ _ (line c.wide.ensures.0 c.word.ensures c.node_line-x.ensures c.line_place.ensures c.wide-start.ensures.0 c.line_size-size.ensures
    c.hex_byte-shape.ensures.0) c.in-1.is

pub returns-in-2 : goal.returns-in-2
returns-in-2 c =
    bytes _ _ _ _ _ _ (line c.wide.ensures.0 c.word.ensures c.node_line-x.ensures c.line_place.ensures c.wide-start.ensures.0 c.line_size-size.ensures
    c.hex_byte-shape.ensures.0) c.in-2.is

pub returns-in-3 : goal.returns-in-3
returns-in-3 c =
    rw c.hex_half-a.ensures.0 (var _ _ _ _ _ _ (line c.wide.ensures.0 c.word.ensures c.node_line-x.ensures c.line_place.ensures c.wide-start.ensures.0
    c.line_size-size.ensures c.hex_byte-shape.ensures.0) c.in-3.is)

pub returns-in-4 : goal.returns-in-4
returns-in-4 c = wildcard _ _ _ _ _ _ (line c.wide.ensures.0 c.word.ensures c.node_line-x.ensures c.line_place.ensures c.wide-start.ensures.0
    c.line_size-size.ensures c.hex_byte-shape.ensures.0) c.in-4.is

pub returns-in-5 : goal.returns-in-5
returns-in-5 c =
    never _ _ _ _ _ _ (line c.wide.ensures.0 c.word.ensures c.node_line-x.ensures c.line_place.ensures c.wide-start.ensures.0 c.line_size-size.ensures
    c.hex_byte-shape.ensures.0) c.in-5.is

pub returns-in-6 : goal.returns-in-6
returns-in-6 c =
    rw c.hex_half-a.ensures.0 (prefix _ _ _ _ _ _
    (line c.wide.ensures.0 c.word.ensures c.node_line-x.ensures c.line_place.ensures c.wide-start.ensures.0 c.line_size-size.ensures c.hex_byte-shape.ensures.0)
    c.in-6.is)

pub returns-in-7 : goal.returns-in-7
returns-in-7 c = rw (c.hex_half-a.ensures.0, c.hex_byte.ensures.0)
    (fuzzy _ _ _ _ _ _ (line c.wide.ensures.0 c.word.ensures c.node_line-x.ensures c.line_place.ensures c.wide-start.ensures.0 c.line_size-size.ensures
    c.hex_byte-shape.ensures.0) c.in-7.is)

pub returns-in-8 : goal.returns-in-8
returns-in-8 c = fields _ _ _ _ _ _ (line c.wide.ensures.0 c.word.ensures c.node_line-x.ensures c.line_place.ensures c.wide-start.ensures.0
    c.line_size-size.ensures c.hex_byte-shape.ensures.0) c.items_of.ensures c.in-8.is

pub returns-in-11 : goal.returns-in-11
returns-in-11 c = disjunction _ _ _ _ _ _ (line c.wide.ensures.0 c.word.ensures c.node_line-x.ensures c.line_place.ensures c.wide-start.ensures.0
    c.line_size-size.ensures c.hex_byte-shape.ensures.0) c.items_of-in-11.ensures c.in-11.is

pub returns-in-14 : goal.returns-in-14
returns-in-14 c = arithmetic _ _ _ _ _ _ (line c.wide.ensures.0 c.word.ensures c.node_line-x.ensures c.line_place.ensures c.wide-start.ensures.0
    c.line_size-size.ensures c.hex_byte-shape.ensures.0) c.items_of-in-14.ensures c.in-14.is

pub returns-in_default : goal.returns-in_default
returns-in_default c = parents _ _ _ _ _ _ (line c.wide.ensures.0 c.word.ensures c.node_line-x.ensures c.line_place.ensures c.wide-start.ensures.0
    c.line_size-size.ensures c.hex_byte-shape.ensures.0) c.in_default.in_default-own.rest c.parent.ensures
