use Rattle.std.proofs.Common.{◌≡◌, ◌+◌, ◌-◌, ◌*◌, ◌<◌, true, refl, arith}
use Rattle.std.proofs.lemmas.Bool.Decides.{nat_tests}
use borrow.Rule.Slice.PartMut.{put_mid}
use Rattle.store.proofs.Texts.{length_words}
use Rattle.store.proofs.Rewrites.{Rewritten, rewritten}
use Rattle.store.proofs.text.TextStoreStore.write.Goals as goal
use Rattle.store.proofs.text.TextStoreStore.write.Goals.{After-write_word}

-- the word is written into its line
line_rewritten : (c : After-write_word) → (c.write_word.result ≡ true) × Rewritten
    c.args.self.now.bytes.now
    (put_mid c.in-Some.line.start (c.in-Some.line.end - c.in-Some.line.start) c.args.self.now.bytes.now
    c.write_word.new.line)
    c.args.self.now.lines c.args.at c.args.word
line_rewritten c =
    let s = c.args.self.now in
    let line = c.in-Some.line in
    let within : c.args.at < s.lines = grind (arith, nat_tests) in
    let from : line.start ≡ 21 * c.args.at = grind (arith, nat_tests) in
    let to : line.end ≡ 21 * c.args.at + 21 = grind (arith, nat_tests) in
    rewritten s.bytes.now _ s.lines c.args.at c.args.word line.start line.end _ within (s.whole (omega arith)) s.formed
    (omega arith) from to c.write_word.ensures.said c.write_word.ensures.written

pub invariant_of-self : goal.invariant_of-self
invariant_of-self c =
    let after = (line_rewritten (goal.at.invariant_of-self c).After-write_word).1 in
    record { whole = λ some. after.whole; formed = after.formed }

pub returns-in-Some : goal.returns-in-Some
returns-in-Some c =
    let s = c.args.self.now in
    let after = line_rewritten (goal.at.returns-in-Some c).After-write_word in
    let many = length_words s.bytes.now s.lines in
    record {
      said = grind (arith, nat_tests);
      written = after.1.words;
      laid = rw after.0 after.1.laid;
      kept = λ is. search after.0;
      tied = refl;
    }
