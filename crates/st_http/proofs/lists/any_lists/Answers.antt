use Rattle.std.proofs.Common.{◌∙◌, sym, ap}
use Rattle.std.proofs.lemmas.List.{take_all}
use Rattle.httparse.specs.declared.spans.HeaderSpan.{HeaderSpan}
use Rattle.httparse.specs.Spans.{header_bytes}
use Rattle.st_http.specs.Fields.{field_lists, lists}
use Rattle.st_http.proofs.ListLemmas.{and_both, any_seen}
use Rattle.st_http.proofs.lists.any_lists.Goals as goal

-- what a loop reads past the end
abbrev empty : HeaderSpan
empty = record { name = record { start = 0; end = 0 }; value = record { start = 0; end = 0 } }

pub returns : goal.returns
returns c =
    let whole = take_all c.loop-field.field-index c.args.fields.now c.loop-field-test.false in sym (rw whole at c.loop-field.invariant)

pub returns-then-has_word : goal.returns-then-has_word
returns-then-has_word c =
    sym (any_seen (field_lists c.args.name.now c.args.word.now) (header_bytes c.args.text.now) c.args.fields.now c.loop-field.field-index empty c.loop-field-test.true
    (and_both _ _ (sym c.is_named.ensures ∙ c.if-is_named.true)
    (ap (lists c.args.word.now) (sym c.of.ensures) ∙ sym c.has_word.ensures ∙ c.if-has_word.true)))
