use Rattle.std.proofs.Common.{◌≡◌, false, map, take}
use Rattle.std.specs.List.{list_any}
use Rattle.httparse.specs.Spans.{header_bytes}
use Rattle.st_http.specs.Fields.{field_lists}
use Rattle.st_http.proofs.lists.any_lists.Given as goal

abbrev pub invariant-loop-field : goal.invariant-loop-field
invariant-loop-field l =
    list_any (field_lists l.name l.word) (map (header_bytes l.text) (take l.field-index l.fields)) ≡ false
