use Rattle.std.proofs.lemmas.Result.{err_from_is_err_and}
use Rattle.reading.proofs.Naming.{text_none, text_some, print_set, few_characters, value_true, value_false, name_broken, name_given, name_adds}
use Rattle.reading.proofs.names.take_name.Goals as goal

pub returns-in_err-chars : goal.returns-in_err-chars
returns-in_err-chars c =
    let p = err_from_is_err_and c.from_residual.result c.from_residual.ensures.1 in
    let t = text_none c.args.line.bytes.now _ c.characters.ensures _ _ c.in_err-chars.ensures.value in
    rw (p.1, p.2, t.0) (record { is = λ e. name_broken e c.args.line.file.now _ c.args.line.bytes.now _ _ _ t.1 })

pub returns-then-given_before : goal.returns-then-given_before
returns-then-given_before c =
    record {
      is = λ e. name_given e c.args.line.file.now _ c.args.line.bytes.now _ _ _ _
          (text_some c.args.line.bytes.now _ c.characters.ensures _ _ c.in_ok-chars.ensures.value) (rw c.if-given_before.true at c.given_before.ensures);
    }

pub name_word-requires : goal.name_word-requires
name_word-requires c = (
  c.args.line.placed,
  few_characters c.args.line.bytes.now _ (text_some _ _ c.characters.ensures _ _ c.in_ok-chars.ensures.value)
      c.args.line.some c.args.line.short,
)

pub returns-then-eq : goal.returns-then-eq
returns-then-eq c = record {
  is = λ e. name_adds e c.args.line.file.now _ c.args.line.bytes.now _ _ _ _ (text_some _ _ c.characters.ensures _ _ c.in_ok-chars.ensures.value)
      (rw c.if-given_before.false at c.given_before.ensures) _
      (value_true c.args.line.bytes.now c.args.c.names c.args.c.value _ c.as_slice.ensures _ c.eq.ensures c.if-eq.true) _
      (rw (c.wide.ensures.0, c.name_word.ensures) at c.put.ensures) _
      (print_set c.args.line.bytes.now _ _ _ _ c.wide-2.ensures.0 c.print_of-print.ensures);
}

pub returns-else-eq : goal.returns-else-eq
returns-else-eq c = record {
  is = λ e. name_adds e c.args.line.file.now _ c.args.line.bytes.now _ _ _ _ (text_some _ _ c.characters.ensures _ _ c.in_ok-chars.ensures.value)
      (rw c.if-given_before.false at c.given_before.ensures) _
      (value_false c.args.line.bytes.now c.args.c.names c.args.c.value _ c.as_slice.ensures _ c.eq.ensures c.if-eq.false) _
      (rw (c.wide.ensures.0, c.name_word.ensures) at c.put.ensures) _
      (print_set c.args.line.bytes.now _ _ _ _ c.wide-2.ensures.0 c.print_of-print.ensures);
}
