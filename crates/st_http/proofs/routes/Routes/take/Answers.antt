use Rattle.std.proofs.Common.{arith}
use Rattle.st_http.proofs.ItemLemmas.{takes_within}
use Rattle.st_http.proofs.MessageLemmas.{takes_whole, takes_begun, faults_begun, faults_crowded, faults_hopeless}
use Rattle.st_http.proofs.routes.Routes.take.Goals as goal
use Rattle.st_http.proofs.routes.Routes.take.Goals.{in-Begun-2, in-Crowded, in-Hopeless}

pub returns-in-Whole-clause-first : goal.returns-in-Whole-clause-first
returns-in-Whole-clause-first c =
    let read = c.in-Whole.ensures in
    takes_whole c.args.text.now c.window-window.result.now c.is_bare-bare.result c.window-window.ensures.bytes c.is_bare-bare.ensures
    _ read.1 c.item.result read.2.reads read.3 (c.item.ensures read.1 read.2)

pub returns-in-Begun-clause-first : goal.returns-in-Begun-clause-first
returns-in-Begun-clause-first c =
    takes_begun c.args.text.now c.window-window.result.now c.is_bare-bare.result c.window-window.ensures.bytes c.is_bare-bare.ensures
    c.in-Begun.ensures c.if-text-lt-HEAD_LIMIT.true

pub returns-clause-first : goal.returns-clause-first
returns-clause-first c =
    let text = c.args.text.now in
    let p = c.window-window.result.now in
    let bare = c.is_bare-bare.result in
    elim c.match-read_head.branch [
      | in-Begun-2 w ↦ rw w.reason-is (faults_begun text p bare c.window-window.ensures.bytes c.is_bare-bare.ensures w.in-Begun.ensures w.if-text-lt-HEAD_LIMIT.false)
      | in-Crowded w ↦
          let crowded = w.in-Crowded.ensures in
          rw w.reason-is (faults_crowded text p bare c.window-window.ensures.bytes c.is_bare-bare.ensures crowded.0 crowded.1 crowded.2 crowded.3)
      | in-Hopeless w ↦ rw w.reason-is (faults_hopeless text p bare c.window-window.ensures.bytes c.is_bare-bare.ensures w.in-Hopeless.ensures)
    ]

pub item-requires-clause-text : goal.item-requires-clause-text
item-requires-clause-text c =
    let head = c.in-Whole.ensures in
    omega (arith, head.0.section.len_fits, c.window-window.ensures.within)

pub returns-in-Whole-clause-within : goal.returns-in-Whole-clause-within
returns-in-Whole-clause-within c = takes_within c.args.text.now c.item.result (returns-in-Whole-clause-first c)
