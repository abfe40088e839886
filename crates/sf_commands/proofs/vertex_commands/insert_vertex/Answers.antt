use Rattle.sf_words.specs.Words.{words}
use Rattle.sf_commands.proofs.VertexLemmas.{seven_words, insert_vertex-refused}
use Rattle.sf_commands.proofs.vertex_commands.insert_vertex.Goals as goal

pub returns-in_err-finish : goal.returns-in_err-finish
returns-in_err-finish c =
    let all = seven_words c.in_ok-layer.layer.now c.in_ok-id.id.now c.in_ok-part.part.now c.in_ok-ring.ring.now c.in_ok-index.index.now c.in_ok-x.x.now c.in_ok-y.y.now
    (words c.args.words) (words c.next.new.self) (words c.next-2.new.self) (words c.next-3.new.self) (words c.next-4.new.self) (words c.next-5.new.self) (words c.next-6.new.self) (words c.next-7.new.self)
    c.in_ok-layer.ensures.0 c.in_ok-id.ensures.0 c.in_ok-part.ensures.0 c.in_ok-ring.ensures.0 c.in_ok-index.ensures.0 c.in_ok-x.ensures.0 c.in_ok-y.ensures.0 in
    insert_vertex-refused c.args.naming (words c.args.words) (words c.next-7.new.self) c.in_ok-layer.layer.now c.in_ok-id.id.now c.in_ok-part.part.now c.in_ok-ring.ring.now c.in_ok-index.index.now c.in_ok-x.x.now c.in_ok-y.y.now
    _ c.from_residual-in_err-finish.result all c.in_err-finish.ensures c.from_residual-in_err-finish.ensures.1
