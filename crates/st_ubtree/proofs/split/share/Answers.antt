use Rattle.std.proofs.Common.{rules, [], ◌∷◌, ◌++◌, ap, sym, ◌∙◌, append_assoc}
use Rattle.st_ubtree.proofs.split.share.Goals as goal

pub returns-then-len-le32-clause-kept : goal.returns-then-len-le32-clause-kept
returns-then-len-le32-clause-kept g c = search rules

pub returns-in-Ok-insert-clause-kept : goal.returns-in-Ok-insert-clause-kept
returns-in-Ok-insert-clause-kept g c =
    let front = c.pop.new.self.items in
    let right = c.args.right.now.items in
    ap (λ xs. front ++ xs) c.in-Ok-insert.ensures.items ∙ sym (append_assoc front (c.in-Some.last ∷ []) right) ∙ ap (λ xs. xs ++ right) (sym c.in-Some.ensures.items)
