use Rattle.refusals.proofs.line.Line.put_rate.Goals as goal

pub returns-in-ThinPipeline-clause-text : goal.returns-in-ThinPipeline-clause-text
returns-in-ThinPipeline-clause-text c = rw c.in-ThinPipeline.is c.put_place.ensures.text

pub returns-in-PipelineTooLarge-clause-text : goal.returns-in-PipelineTooLarge-clause-text
returns-in-PipelineTooLarge-clause-text c = rw c.in-PipelineTooLarge.is c.put_place-in-PipelineTooLarge.ensures.text

pub returns-in-PipelineRatio-clause-text : goal.returns-in-PipelineRatio-clause-text
returns-in-PipelineRatio-clause-text c = rw c.in-PipelineRatio.is c.put_place-in-PipelineRatio.ensures.text
