use Rattle.tc_station.proofs.Names.{◌≡◌, ◌∙◌, rules, arith, no_limits}
use Rattle.tc_link.specs.Bits.{bit}
use Rattle.tc_station.proofs.station.StationOf.watch.Goals as goal

pub overflow_add-result : goal.overflow_add-result
overflow_add-result g c =
    let seen = c.read.new.self.seen in
    let fits = c.each_clcw_fits_its_word.ensures no_limits seen.settings seen.journal c.args.link c.read.ensures.allowed c.read.ensures.lawful in
    let flags = c.the_flags_of_the_link_have_their_own_bits.ensures seen c.args.link in
    let no_rf : c.from.result ≡ bit c.args.link.no_rf = search rules in
    omega (arith, c.read.ensures.word, fits, flags, no_rf)

pub overflow_add-result-2 : goal.overflow_add-result-2
overflow_add-result-2 g c =
    let seen = c.read.new.self.seen in
    let fits = c.each_clcw_fits_its_word.ensures no_limits seen.settings seen.journal c.args.link c.read.ensures.allowed c.read.ensures.lawful in
    let flags = c.the_flags_of_the_link_have_their_own_bits.ensures seen c.args.link in
    let no_rf : c.from.result ≡ bit c.args.link.no_rf = search rules in
    let no_bit_lock : c.from-2.result ≡ bit c.args.link.no_bit_lock = search rules in
    omega (arith, c.read.ensures.word, fits, flags, no_rf, no_bit_lock)

pub returns-clause-word : goal.returns-clause-word
returns-clause-word g c =
    let flags = c.the_flags_of_the_link_have_their_own_bits.ensures c.read.new.self.seen c.args.link in
    let no_rf : c.from.result ≡ bit c.args.link.no_rf = search rules in
    let no_bit_lock : c.from-2.result ≡ bit c.args.link.no_bit_lock = search rules in
    omega (arith, c.read.ensures.word, flags, no_rf, no_bit_lock)

pub returns-clause-watcher : goal.returns-clause-watcher
returns-clause-watcher g c = λ vcid (head, of, board, settings). (head, of, c.read.ensures.board ∙ board, c.read.ensures.later.0 ∙ settings)
