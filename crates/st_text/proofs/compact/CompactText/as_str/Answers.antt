use Rattle.std.proofs.Common.{sym, ap, ◌∙◌, string_bytes}
use Rattle.st_text.specs.inner.Compact.{stored_bytes}
use Rattle.st_text.proofs.compact.CompactText.as_str.Goals as goal

pub returns-in-Inline : goal.returns-in-Inline
returns-in-Inline g c = c.as_str.ensures.value ∙ sym (ap stored_bytes c.in-Inline.is) ∙ c.self.view_is

pub returns-in-Boxed : goal.returns-in-Boxed
returns-in-Boxed g c = c.as_str-in-Boxed.ensures.value ∙ c.deref.ensures ∙ sym (ap stored_bytes c.in-Boxed.is) ∙ c.self.view_is

pub returns-in-Heap : goal.returns-in-Heap
returns-in-Heap g c = c.as_str-in-Heap.ensures.value ∙ ap string_bytes c.deref-in-Heap.ensures ∙ sym (ap stored_bytes c.in-Heap.is) ∙ c.self.view_is
