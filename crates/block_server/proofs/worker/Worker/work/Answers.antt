use Rattle.std.proofs.Common.{[], subst}
use Rattle.block_server.specs.Ports.{IsUsable}
use Rattle.block_server.specs.Workers.{export_of}
use Rattle.block_server.proofs.LinkLemmas.{export-same, served-same}
use Rattle.block_server.proofs.worker.Worker.work.Goals as goal

pub returns : goal.returns
returns g c =
    let so = c.serve_link-standing.ensures.served c.args.number in record {
      worked = record {
        played = so.0;
        served = served-same _ (export_of c.args.shape c.args.number) _ _ c.args.links c.args.number
            (g.L.Link.state c.args.self.link) (g.L.Link.state c.serve_link-standing.new.link)
            c.args.self.ends.items [] c.serve_link-standing.new.ends.items
            c.serve_link-standing.result so.0
            (export-same _ c.args.number c.args.shape.blocks _ c.args.shape.atom c.from.ensures
            c.from-2.ensures) c.from-step.ensures c.requires.ready.ends so.1;
        usable = subst (λ cell. IsUsable cell c.serve_link-standing.new.port.lane
            c.serve_link-standing.new.port.left_by) so.2.cell_is
            c.serve_link-standing.ensures.usable.0;
        answers = so.2.answers;
        same = so.2.same;
        left = so.3;
      };
    }
