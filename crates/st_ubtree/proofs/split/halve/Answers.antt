use Rattle.std.proofs.Common.{◌++◌, length, reverse, ap, ◌∙◌, arith}
use Rattle.std.proofs.lemmas.List.{length-reverse, reverse-reverse}
use Rattle.st_ubtree.proofs.Evening.{met_length, turned}
use Rattle.st_ubtree.proofs.split.halve.Goals as goal

pub returns-clause-kept : goal.returns-clause-kept
returns-clause-kept g c =
    let l = c.args.left.now.items in
    let one = c.pour.ensures.kept ∙ ap (λ xs. l ++ reverse xs) c.reverse.ensures.items ∙ ap (λ xs. l ++ xs) (reverse-reverse c.args.right.now.items) in
    ap (λ xs. c.pour-2.new.to.items ++ xs) c.reverse-2.ensures.items
    ∙ turned c.pour-2.new.from.items c.pour-2.new.to.items c.pour.new.to.items c.pour.new.from.items c.pour-2.ensures.kept ∙ one

pub pour-requires-2 : goal.pour-requires-2
pour-requires-2 g c =
    let l = c.args.left.now in
    let sum = met_length c.pour.new.from.items c.pour.new.to.items l.items c.reverse.new.self.items c.pour.ensures.kept in
    record {
      room = omega (
        arith,
        sum,
        c.pour.new.from.ok.0,
        c.pour.new.to.ok.0,
        c.reverse.new.self.ok.0,
        l.ok.0,
        c.args.right.now.ok.0,
        c.len.ensures,
        c.len-2.ensures,
        c.reverse.ensures.len,
        c.requires.both.0,
        c.requires.both.1,
        c.requires.left_room,
        c.pour.ensures.from_room,
      );
    }

pub returns-clause-left : goal.returns-clause-left
returns-clause-left g c =
    let l = c.args.left.now in
    let r = c.args.right.now in
    let one = met_length c.pour.new.from.items c.pour.new.to.items l.items c.reverse.new.self.items c.pour.ensures.kept in
    let two = met_length c.pour-2.new.from.items c.pour-2.new.to.items c.pour.new.to.items c.pour.new.from.items c.pour-2.ensures.kept in
    let a = c.pour.ensures.count in
    let b = c.pour-2.ensures.count in
    let n = c.reverse.new.self.ok.0 in (
      omega (arith, one, two, a, b, n, l.ok.0, r.ok.0, c.len.ensures, c.len-2.ensures, c.reverse.ensures.len, c.requires.both.0, c.requires.both.1),
      omega (arith, one, two, a, b, n, l.ok.0, r.ok.0, c.len.ensures, c.len-2.ensures, c.reverse.ensures.len, c.requires.both.0, c.requires.both.1),
    )

pub returns-clause-right : goal.returns-clause-right
returns-clause-right g c =
    let l = c.args.left.now in
    let r = c.args.right.now in
    let one = met_length c.pour.new.from.items c.pour.new.to.items l.items c.reverse.new.self.items c.pour.ensures.kept in
    let b = c.pour-2.ensures.count in
    let a = c.pour.ensures.count in
    let n = c.reverse.new.self.ok.0 in
    let m = ap length c.reverse-2.ensures.items ∙ length-reverse c.pour-2.new.from.items in (
      omega (arith, one, a, b, n, m, l.ok.0, r.ok.0, c.len.ensures, c.len-2.ensures, c.reverse.ensures.len, c.requires.both.0, c.requires.both.1),
      omega (arith, one, a, b, n, m, l.ok.0, r.ok.0, c.len.ensures, c.len-2.ensures, c.reverse.ensures.len, c.requires.both.0, c.requires.both.1),
    )
