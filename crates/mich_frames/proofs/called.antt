-- Lemmas on calls of contracts: how the runs of their code begin.
pub mod Beginning
pub mod ForCallers
