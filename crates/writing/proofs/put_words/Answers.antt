use Rattle.std.proofs.Common.{◌≡◌, ◌+◌, ◌*◌, ◌++◌, length, get_or, take, sym, ap, ◌∙◌, arith, rules}
use Rattle.std.specs.List.{flat_map}
use Rattle.std.proofs.lemmas.List.{flat_map_more, take_more, take_all}
use Rattle.layout.specs.Encoded.{pair}
use Rattle.writing.proofs.Growing.{grow}
use Rattle.writing.proofs.put_words.Goals as goal

pub loop-i-preserved : goal.loop-i-preserved
loop-i-preserved c =
    let i = c.loop-i.i in
    let words = c.args.words.now in
    let bytes : c.to_le_bytes.result ≡ pair (get_or words i 0) = search rules in
    let more = take_more words i 0 (omega arith) in
    let join = flat_map_more pair (take c.args.at c.args.out.now) (take i words) (get_or words i 0) in
    let next = grow (c.args.at + 2 * i) 2 (c.args.at + 2 * (i + 1)) c.put.new.out c.loop-i.out c.to_le_bytes.result _ _ c.put.ensures (ap length bytes) (omega arith) bytes c.loop-i.invariant in
    next ∙ join ∙ ap (λ ws. take c.args.at c.args.out.now ++ flat_map pair ws) (sym more)

pub returns : goal.returns
returns c =
    let end : c.loop-i.i ≡ length c.args.words.now = omega arith in
    let all = take_all c.loop-i.i c.args.words.now (omega arith) in
    cc
